-- The source's costs and sentence, run for a bounded number of turns: what a run comes to is what the source returns; where a turn changes nothing and some rule is not done, the source never returns.
use Rattle.std.proofs.Common.{◌≡◌, ℕ, zero, suc, ◌+◌, ◌<◌, ◌≤◌, Bool, true, false, cond, not, ◌&&◌, ◌||◌, eqb, ltb, leb, List, [], ◌∷◌, ◌++◌, drop, sym, refl, ap, ◌∙◌, subst, ap₂, inl, inr, true≢false, arith, ne_eqb, eqb-true, le-leb, leb-true}
use mathlib.Core.Bool.{false≢true}
use mathlib.Core.List.Memᴰ
use mathlib.Core.List.{Memᴰ}
use mathlib.Core.Option.{Option, none, some, some-injective}
use mathlib.Core.Path.{fun_ext}
use native.Mathlib.Decide.{dec_lt}
use borrow.Author.Tests.{not-true, not-false}
use Rattle.theory.specs.Below.{some as some_below}
use Rattle.theory.specs.Grammar.{tok, rul, Form, Grammar}
use Rattle.theory.specs.Visits.{Costs, form_cost}
use Rattle.theory.proofs.Below.{some_found, none_at}
use Rattle.theory.proofs.Bools.{and_split, and_join, or_split, or_none, tested, same, same_is}
use Rattle.source.specs.Costs.{State, start, prods, settle, rule, Round, over, skip, work, Returns, all_done, again}
use Rattle.source.specs.Order.{rising, rule_to_prods, iter_rules}
use Rattle.source.specs.Sentence as Sentence

nothing : {A : Type 0} {a : A} → none ≡ some a → ⊥
nothing e = let z : ◌≡◌ {A = ℕ} 0 1 = cc in omega arith

-- an answer, and what is made of it
abbrev pub onto : {A B : Type 0} → Option A → (A → Option B) → Option B
onto none f = none
onto (some a) f = f a

onto_given : {A B : Type 0} (x : Option A) (f : A → Option B) {b : B} → onto x f ≡ some b → (a : A) × (x ≡ some a) × (f a ≡ some b)
onto_given none f e = absurd (nothing e)
onto_given (some a) f e = (a, refl, e)

-- an answer if the test holds
abbrev pub given : {A : Type 0} → Bool → Option A → Option A
given b x = cond b x none

given_so : {A : Type 0} (b : Bool) (x : Option A) {a : A} → given b x ≡ some a → (b ≡ true) × (x ≡ some a)
given_so true x e = (refl, e)
given_so false x e = absurd (nothing e)

module _ (g : Grammar) (k : ℕ → ℕ) where
  -- no sum of these productions is above 65535
  abbrev pub fits : Costs → List ℕ → Bool
  fits c [] = true
  fits c (p ∷ ps) = leb (form_cost k c (g.body p)) 65535 && fits c ps

  fits_at : (c : Costs) (ps : List ℕ) → fits c ps ≡ true → (p : ℕ) → Memᴰ p ps → form_cost k c (g.body p) ≤ 65535
  fits_at c [] e p m = absurd (Memᴰ.not-nil m)
  fits_at c (q ∷ ps) e p m =
      let s = and_split (leb (form_cost k c (g.body q)) 65535) _ e in
      elim (Memᴰ.cases_cons m) [ inl d ↦ rw d (leb-true _ 65535 s.0) | inr n ↦ fits_at c ps s.1 p n ]

  fits_all : (c : Costs) (ps : List ℕ) → ((p : ℕ) → Memᴰ p ps → form_cost k c (g.body p) ≤ 65535) → fits c ps ≡ true
  fits_all c [] h = refl
  fits_all c (q ∷ ps) h = and_join (le-leb _ 65535 (h q (Memᴰ.head refl))) (fits_all c ps (λ p m. h p (Memᴰ.tail m)))

  -- a turn of the loop, where no sum is above 65535
  abbrev pub turn : List ℕ → State → Option State
  turn [] s = some s
  turn (i ∷ is) s = cond (s.done i) (turn is s) (given (fits s.costs (rule_to_prods g i)) (turn is (rule g k i s)))

  turn_round : (is : List ℕ) (s : State) {t : State} → turn is s ≡ some t → Round g k is s t
  turn_round [] s {t} e = subst (λ z. Round g k [] s z) (some-injective s t e) over
  turn_round (i ∷ is) s {t} e = elim (tested (s.done i)) [
    | inl d ↦ skip d (turn_round is s (rw d at e))
    | inr d ↦ let x = given_so (fits s.costs (rule_to_prods g i)) _ (rw d at e) in work d (fits_at s.costs (rule_to_prods g i) x.0) (turn_round is (rule g k i s) x.1)
  ]

  round_turn : {is : List ℕ} {s t : State} → Round g k is s t → turn is s ≡ some t
  round_turn over = refl
  round_turn (skip d r) = rw d (round_turn r)
  round_turn (work {i = i} {s = s} d a r) = rw (d, fits_all s.costs (rule_to_prods g i) a) (round_turn r)

  -- some rule is not done
  abbrev pub unfinished : State → Bool
  unfinished s = some_below g.rules (λ r. not (s.done r))

  -- what the costs come to in at most n turns
  abbrev pub costs_in : ℕ → State → Option Costs
  costs_in zero s = given (not (unfinished s)) (some s.costs)
  costs_in (suc n) s = cond (unfinished s) (onto (turn (iter_rules g) s) (λ t. costs_in n t)) (some s.costs)

  all_finished : (s : State) → unfinished s ≡ false → Returns g k s s.costs
  all_finished s e = all_done (λ r lt. not-false _ (none_at (λ r. not (s.done r)) g.rules r e lt))

  pub costs_return : (n : ℕ) (s : State) {c : Costs} → costs_in n s ≡ some c → Returns g k s c
  costs_return zero s {c} e =
      let x = given_so (not (unfinished s)) _ e in
      subst (λ z. Returns g k s z) (some-injective s.costs c x.1) (all_finished s (not-true _ x.0))
  costs_return (suc n) s {c} e = elim (tested (unfinished s)) [
    | inr u ↦ subst (λ z. Returns g k s z) (some-injective s.costs c (rw u at e)) (all_finished s u)
    | inl u ↦
        let x = onto_given (turn (iter_rules g) s) _ (rw u at e) in
        let r = some_found (λ r. not (s.done r)) g.rules u in
        again r.0 r.1 (not-true _ r.2) (turn_round (iter_rules g) s x.1) (costs_return n x.0 x.2)
  ]

  -- the turn of a rule changes nothing of another one, and a turn of the loop nothing past the rules
  pub record Past (s t : State) (r : ℕ) : Type 0 where
    pub costs : t.costs r ≡ s.costs r
    pub done : t.done r ≡ s.done r

  settle_past : (i : ℕ) (a b : Option ℕ) (s : State) (r : ℕ) → eqb r i ≡ false → Past s (settle i a b s) r
  settle_past i none none s r e = record { costs = refl; done = refl }
  settle_past i none (some b) s r e = record { costs = rw e; done = refl }
  settle_past i (some a) none s r e = record { costs = rw e; done = rw e }
  settle_past i (some a) (some b) s r e = elim (tested (ltb a b)) [ inl x ↦ rw x (record { costs = rw e; done = rw e }) | inr x ↦ rw x (record { costs = rw e; done = refl }) ]

  rule_past : (i : ℕ) (s : State) (r : ℕ) → eqb r i ≡ false → Past s (rule g k i s) r
  rule_past i s r e =
      let l = prods g k s (rule_to_prods g i) (record { cmplt = none; noncmplt = none }) in
      settle_past i l.cmplt l.noncmplt s r e

  turn_past : (n i : ℕ) (s : State) {t : State} → turn (rising n i) s ≡ some t → (r : ℕ) → i + n ≤ r → Past s t r
  turn_past zero i s {t} e r l = let q = some-injective s t e in record { costs = ap (λ (z : State). z.costs r) (sym q); done = ap (λ (z : State). z.done r) (sym q) }
  turn_past (suc n) i s {t} e r l = elim (tested (s.done i)) [
    | inl d ↦ turn_past n (suc i) s (rw d at e) r (omega arith)
    | inr d ↦
        let x = given_so (fits s.costs (rule_to_prods g i)) _ (rw d at e) in
        let p = turn_past n (suc i) (rule g k i s) x.1 r (omega arith) in
        let q = rule_past i s r (ne_eqb r i (λ d. omega (arith, d))) in
        record { costs = p.costs ∙ q.costs; done = p.done ∙ q.done }
  ]

  -- the same costs and the same rules done
  abbrev pub same_state : State → State → Bool
  same_state s t = not (some_below g.rules (λ r. not (eqb (t.costs r) (s.costs r)) || not (same (t.done r) (s.done r))))

  same_state_law : (s t : State) → turn (iter_rules g) s ≡ some t → same_state s t ≡ true → t ≡ s
  same_state_law s t e h = ap₂ (λ c d. record { costs = c; done = d }) (fun_ext (λ r. (at r).costs)) (fun_ext (λ r. (at r).done))
    where
      at : (r : ℕ) → Past s t r
      at r = elim (dec_lt r g.rules) [
        | yes l ↦ let x = or_none _ _ (none_at (λ r. not (eqb (t.costs r) (s.costs r)) || not (same (t.done r) (s.done r))) g.rules r (not-true _ h) l) in
            record { costs = eqb-true _ _ (not-false _ x.0); done = same_is _ _ (not-false _ x.1) }
        | no l ↦ turn_past g.rules 0 s e r (omega arith)
      ]

  -- after n turns a turn changes nothing, and some rule is not done
  abbrev pub stuck_in : ℕ → State → Option (Unit {0})
  stuck_in zero s = given (unfinished s) (onto (turn (iter_rules g) s) (λ t. given (same_state s t) (some tt)))
  stuck_in (suc n) s = given (unfinished s) (onto (turn (iter_rules g) s) (λ t. stuck_in n t))

  goes_on : (s : State) → unfinished s ≡ true → ((r : ℕ) → r < g.rules → s.done r ≡ true) → ⊥
  goes_on s u f = let r = some_found (λ r. not (s.done r)) g.rules u in true≢false (sym (f r.0 r.1) ∙ not-true _ r.2)

  at_rest : (s : State) → unfinished s ≡ true → turn (iter_rules g) s ≡ some s → {u : State} → u ≡ s → {c : Costs} → Returns g k u c → ⊥
  at_rest s x e q (all_done f) = goes_on s x (λ r lt. ap (λ (z : State). z.done r) (sym q) ∙ f r lt)
  at_rest s x e q (again {t = t} r lt d a b) =
      at_rest s x e (some-injective t s (sym (round_turn a) ∙ ap (λ z. turn (iter_rules g) z) q ∙ e)) b

  pub stuck_never : (n : ℕ) (s : State) → stuck_in n s ≡ some tt → {c : Costs} → Returns g k s c → ⊥
  stuck_never zero s e x =
      let u = given_so (unfinished s) _ e in
      let t = onto_given (turn (iter_rules g) s) _ u.1 in
      let h = given_so (same_state s t.0) _ t.2 in
      at_rest s u.0 (t.1 ∙ ap some (same_state_law s t.0 t.1 h.0)) refl x
  stuck_never (suc n) s e (all_done f) = goes_on s (given_so (unfinished s) _ e).0 f
  stuck_never (suc n) s e (again {t = t} r lt d a b) =
      let x = onto_given (turn (iter_rules g) s) _ (given_so (unfinished s) _ e).1 in
      let q : x.0 ≡ t = some-injective x.0 t (sym x.1 ∙ round_turn a) in
      stuck_never n t (subst (λ z. stuck_in n z ≡ some tt) q x.2) b

-- `asked`: the costs return c; if not, no cost may be asked for
module _ (g : Grammar) (k : ℕ → ℕ) (asked : Bool) (c : Costs) where
  -- a form without rules asks for no cost
  abbrev pub plain : Form → Bool
  plain [] = true
  plain (tok t ∷ α) = plain α
  plain (rul r ∷ α) = false

  abbrev pub all_plain : List ℕ → Bool
  all_plain [] = true
  all_plain (p ∷ ps) = plain (g.body p) && all_plain ps

  -- `cheapest_prod(r)`
  abbrev pub cheapest : ℕ → Option ℕ
  cheapest r = given (asked || all_plain (rule_to_prods g r)) (given (fits g k c (rule_to_prods g r)) (Sentence.prods g k c (rule_to_prods g r) Sentence.unset).idx)

  abbrev pub entry : (p i : ℕ) → Sentence.Entry
  entry p i = record { pidx = p; sym_idx = i }

  -- the stack and the sentence
  pub record Held : Type 0 where
    pub st : List Sentence.Entry
    pub s : List ℕ

  -- the `for` over the symbols
  abbrev pub symbols : (p i : ℕ) → Form → List Sentence.Entry → List ℕ → Option Held
  symbols p i [] st s = some (record { st = st; s = s })
  symbols p i (tok t ∷ α) st s = symbols p (suc i) α st (s ++ (t ∷ []))
  symbols p i (rul r ∷ α) st s = onto (cheapest r) (λ q. symbols p (suc i) α (entry q 0 ∷ entry p (suc i) ∷ st) s)

  -- the `while`: one turn, and then what `next` makes of the stack and the sentence
  abbrev pub popped : (Held → Option (List ℕ)) → List Sentence.Entry → List ℕ → Option (List ℕ)
  popped next [] s = some s
  popped next (e ∷ st) s = onto (symbols e.pidx e.sym_idx (drop e.sym_idx (g.body e.pidx)) st s) next

  -- at most n turns
  abbrev pub while_in : ℕ → List Sentence.Entry → List ℕ → Option (List ℕ)
  while_in zero st s = popped (λ h. none) st s
  while_in (suc n) st s = popped (λ h. while_in n h.st h.s) st s

  -- `min_sentence(r)`, in at most n turns of the `while`
  abbrev pub sentence_in : ℕ → ℕ → Option (List ℕ)
  sentence_in n r = onto (cheapest r) (λ p. while_in n (entry p 0 ∷ []) [])

  plain_holds : (α : Form) → plain α ≡ true → (s : ℕ) → Memᴰ (rul s) α → ⊥
  plain_holds [] e s m = Memᴰ.not-nil m
  plain_holds (tok t ∷ α) e s m = elim (Memᴰ.cases_cons m) [ inl d ↦ let z : ◌≡◌ {A = ℕ} 0 1 = cc in omega arith | inr n ↦ plain_holds α e s n ]
  plain_holds (rul r ∷ α) e s m = false≢true e

  all_plain_law : (ps : List ℕ) → all_plain ps ≡ true → (p : ℕ) → Memᴰ p ps → plain (g.body p) ≡ true
  all_plain_law [] e p m = absurd (Memᴰ.not-nil m)
  all_plain_law (q ∷ ps) e p m =
      let s = and_split (plain (g.body q)) _ e in
      elim (Memᴰ.cases_cons m) [ inl d ↦ rw d s.0 | inr n ↦ all_plain_law ps s.1 p n ]

  module _ (ret : asked ≡ true → Returns g k start c) where
    cheapest_is : (r : ℕ) {p : ℕ} → cheapest r ≡ some p → Sentence.Cheapest g k c r p
    cheapest_is r {p} e =
        let a = given_so (asked || all_plain (rule_to_prods g r)) _ e in
        let b = given_so (fits g k c (rule_to_prods g r)) _ a.1 in
        record {
          costs = λ s h. elim (or_split asked _ a.0) [ inl q ↦ ret q | inr q ↦ absurd (plain_holds (g.body h.prod) (all_plain_law (rule_to_prods g r) q h.prod h.owned) s h.holds) ];
          sums = fits_at g k c (rule_to_prods g r) b.0;
          unwrap = b.1;
        }

    symbols_are : (p i : ℕ) (α : Form) (st : List Sentence.Entry) (s : List ℕ) {h : Held} → symbols p i α st s ≡ some h → Sentence.Symbols g k c p i α st s h.st h.s
    symbols_are p i [] st s {h} e = subst (λ (z : Held). Sentence.Symbols g k c p i [] st s z.st z.s) (some-injective (record { st = st; s = s }) h e) Sentence.over
    symbols_are p i (tok t ∷ α) st s e = Sentence.token (symbols_are p (suc i) α st (s ++ (t ∷ [])) e)
    symbols_are p i (rul r ∷ α) st s e =
        let x = onto_given (cheapest r) _ e in
        Sentence.rule (cheapest_is r x.1) (symbols_are p (suc i) α (entry x.0 0 ∷ entry p (suc i) ∷ st) s x.2)

    popped_is : (next : Held → Option (List ℕ)) {v : List ℕ} → ((h : Held) → next h ≡ some v → Sentence.While g k c h.st h.s v)
        → (st : List Sentence.Entry) (s : List ℕ) → popped next st s ≡ some v → Sentence.While g k c st s v
    popped_is next {v} ih [] s e = subst (λ z. Sentence.While g k c [] s z) (some-injective s v e) Sentence.done
    popped_is next ih (e ∷ st) s q =
        let x = onto_given (symbols e.pidx e.sym_idx (drop e.sym_idx (g.body e.pidx)) st s) _ q in
        Sentence.pop (symbols_are e.pidx e.sym_idx _ st s x.1) (ih x.0 x.2)

    while_is : (n : ℕ) (st : List Sentence.Entry) (s : List ℕ) {v : List ℕ} → while_in n st s ≡ some v → Sentence.While g k c st s v
    while_is zero st s e = popped_is _ (λ h q. absurd (nothing q)) st s e
    while_is (suc n) st s e = popped_is _ (λ h q. while_is n h.st h.s q) st s e

    pub sentence_return : (n r : ℕ) {v : List ℕ} → sentence_in n r ≡ some v → Sentence.Returns g k c r v
    sentence_return n r e =
        let x = onto_given (cheapest r) _ e in
        record { pidx = x.0; cheapest = cheapest_is r x.1; loops = while_is n (entry x.0 0 ∷ []) [] x.2 }
