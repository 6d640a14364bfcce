-- The source's `min_sentences` (grammar.rs) as a value: `cheapest_prods`, the lists `ms`, the odometer `todo` and the sentences `sts`. `c` is its list of costs.
use Rattle.std.specs.Prelude.{◌≡◌, ℕ, zero, suc, ◌+◌, ◌-◌, Bool, true, false, cond, List, [], ◌∷◌, ◌++◌, map, length, replicate, ◌==◌, ◌≢◌, nat_le, nat_lt, slice_index, slice_index_or, slice_set}
use Rattle.std.proofs.Math.Option.{Option, none, some}
use Rattle.theory.specs.Grammar.{tok, rul, Form, Grammar}
use Rattle.theory.specs.Visits.{Costs, form_cost}
use Rattle.source.specs.Costs as Costs
use Rattle.source.specs.Order.{rule_to_prods}
use Rattle.source.specs.Sentence.{Sums, Asks}

-- `low_sc` and `low_idxs`
pub record Lows : Type 0 where
  pub sc : Option ℕ
  pub idxs : List ℕ

-- `let mut low_sc = None; let mut low_idxs = vec![];`
abbrev pub unset : Lows
unset = record { sc = none; idxs = [] }

-- `low_sc.is_none() || Some(sc) <= low_sc`
abbrev pub upto : ℕ → Option ℕ → Bool
upto n none = true
upto n (some m) = nat_le n m

-- `Some(sc) < low_sc`
abbrev pub less : ℕ → Option ℕ → Bool
less n none = false
less n (some m) = nat_lt n m

-- a production with its sum `sc`: if it is at most the lowest, `if Some(sc) < low_sc { low_idxs.clear(); } low_sc = Some(sc); low_idxs.push(pidx);`
abbrev pub prod : Grammar → (ℕ → ℕ) → Costs → ℕ → Lows → Lows
prod g k c p l = cond (upto (form_cost k c (g.body p)) l.sc) (record { sc = some (form_cost k c (g.body p)); idxs = cond (less (form_cost k c (g.body p)) l.sc) [] l.idxs ++ (p ∷ []) }) l

-- `for &pidx in self.grm.rule_to_prods(p_ridx).iter()`
abbrev pub prods : Grammar → (ℕ → ℕ) → Costs → List ℕ → Lows → Lows
prods g k c [] l = l
prods g k c (p ∷ ps) l = prods g k c ps (prod g k c p l)

-- `cheapest_prods(p_ridx)` returns ps, no sum being above 65535; only a call of `min_sentence_cost` makes `rule_min_costs` run (`get_or_insert_with`)
pub record CheapestProds (g : Grammar) (k : ℕ → ℕ) (c : Costs) (r : ℕ) (ps : List ℕ) : Type 0 where
  pub costs : (s : ℕ) → Asks g r s → Costs.Returns g k Costs.start c
  pub sums : Sums g k c r
  pub low_idxs : (prods g k c (rule_to_prods g r) unset).idxs ≡ ps

-- `for i in 0..todo.len() { cur.extend(&ms[i][todo[i]]); }`
abbrev pub cur : List (List (List ℕ)) → (todo : List ℕ) → List ℕ
cur [] todo = []
cur (m ∷ ms) [] = []
cur (m ∷ ms) (d ∷ todo) = slice_index_or m d [] ++ cur ms todo

-- `loop { if todo[j] + 1 == ms[j].len() { if j == 0 { break 'b; } todo[j] = 0; j -= 1; } else { todo[j] += 1; break; } }`, from j on: none where it breaks 'b. `bs` has each `ms[j].len()`
abbrev pub carry : (bs todo : List ℕ) (j : ℕ) → Option (List ℕ)
carry bs todo zero = cond (slice_index todo 0 + 1 == slice_index bs 0) none (some (slice_set todo 0 (slice_index todo 0 + 1)))
carry bs todo (suc j) = cond (slice_index todo (suc j) + 1 == slice_index bs (suc j)) (carry bs (slice_set todo (suc j) 0) j) (some (slice_set todo (suc j) (slice_index todo (suc j) + 1)))

-- `'b: loop { .. sts.push(std::mem::take(&mut cur)); let mut j = todo.len() - 1; .. }`: with todo it pushes `out`
pub data Loop (ms : List (List (List ℕ))) : (todo : List ℕ) (out : List (List ℕ)) → Type 0 where
  break_b : {todo : List ℕ} → carry (map length ms) todo (length todo - 1) ≡ none → Loop ms todo (cur ms todo ∷ [])
  again : {todo todo' : List ℕ} {out : List (List ℕ)} → carry (map length ms) todo (length todo - 1) ≡ some todo' → Loop ms todo' out → Loop ms todo (cur ms todo ∷ out)

-- `for sym in prod { match *sym { Symbol::Rule(s_ridx) => ms.push(self.min_sentences(s_ridx)), Symbol::Token(s_tidx) => ms.push(vec![vec![s_tidx]]) } }`; `Call r m`: the call for rule r returns m
pub data Gathers (Call : ℕ → List (List ℕ) → Type 0) : Form → List (List (List ℕ)) → Type 0 where
  over : Gathers Call [] []
  token : {t : ℕ} {α : Form} {ms : List (List (List ℕ))} → Gathers Call α ms → Gathers Call (tok t ∷ α) (((t ∷ []) ∷ []) ∷ ms)
  rule : {r : ℕ} {α : Form} {m : List (List ℕ)} {ms : List (List (List ℕ))} → Call r m → Gathers Call α ms → Gathers Call (rul r ∷ α) (m ∷ ms)

-- `for pidx in cheapest_prods(ridx)`: what is pushed to `sts`
pub data Pushes (g : Grammar) (Call : ℕ → List (List ℕ) → Type 0) : List ℕ → List (List ℕ) → Type 0 where
  stop : Pushes g Call [] []
  -- `if prod.is_empty() { sts.push(vec![]); continue; }`
  empty : {p : ℕ} {ps : List ℕ} {sts : List (List ℕ)} → g.body p ≡ [] → Pushes g Call ps sts → Pushes g Call (p ∷ ps) ([] ∷ sts)
  -- `let mut todo = vec![0; prod.len()];`
  works : {p : ℕ} {ps : List ℕ} {ms : List (List (List ℕ))} {out sts : List (List ℕ)} → (g.body p ≢ []) → Gathers Call (g.body p) ms → Loop ms (replicate (length (g.body p)) 0) out → Pushes g Call ps sts → Pushes g Call (p ∷ ps) (out ++ sts)

-- `min_sentences(ridx)` returns sts, with at most n calls one inside another
abbrev pub Runs : Grammar → (ℕ → ℕ) → Costs → (n r : ℕ) → List (List ℕ) → Type 0
Runs g k c zero r sts = ⊥
Runs g k c (suc n) r sts = (ps : List ℕ) × CheapestProds g k c r ps × Pushes g (Runs g k c n) ps sts

-- it returns: not every grammar has a result
abbrev pub Returns : Grammar → (ℕ → ℕ) → Costs → ℕ → List (List ℕ) → Type 0
Returns g k c r sts = (n : ℕ) × Runs g k c n r sts
