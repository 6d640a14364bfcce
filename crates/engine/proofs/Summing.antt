-- The sum of a stretch, symbol by symbol: what is added up so far, and what is left. `k` is what a token adds, `c` what a rule adds.
use mathlib.Core.Bool.{Bool, true, false, ◌&&◌, cond}
use mathlib.Core.List.{List, [], ◌∷◌}
use mathlib.Core.Path.{◌≡◌, refl, sym, ap, ◌∙◌}
use Prim.Native.Nat.{ℕ, zero, suc, ◌+◌, ◌-◌, ◌≤◌, ◌<◌, min}
use native.Mathlib.Nat.{add-zero}
use native.Mathlib.Omega.{arith}
use lib.Dec.{leb}
use lib.ListN.{length, get_or}
use borrow.Author.Tests.{le-leb, lt-leb}
use Rattle.theory.specs.Grammar.{Sym, tok, rul, Form}
use Rattle.theory.specs.Visits.{Row, Costs, all_marked, form_cost, known, sum_cost}
use Rattle.grammar.specs.Flat.{at, symbol, form}
use Rattle.grammar.proofs.Forms.{symbol_token, symbol_rule}
use Rattle.engine.specs.Cost.{costs_of, Part, sum_of, SymbolPriced, Pricing}
use Rattle.engine.proofs.Spans.{span, span_done, span_in, span_is, span_more}

-- inside the list an entry is the number that stands there
pub default_same : (ws : List ℕ) (r d e : ℕ) → r < length ws → get_or ws r d ≡ get_or ws r e
default_same [] r d e l = absurd (omega arith)
default_same (w ∷ ws) zero d e l = refl
default_same (w ∷ ws) (suc r) d e l = default_same ws r d e (omega arith)

pub entry : (ws : List ℕ) (r : ℕ) → r < length ws → costs_of ws r ≡ at ws r
unfolding costs_of
entry ws r l = default_same ws r 65537 0 l

-- the front of a form, and the rest
form_cons : (k : ℕ → ℕ) (c : Costs) (x : Sym) (α : Form) → form_cost k c (x ∷ α) ≡ form_cost k c (x ∷ []) + form_cost k c α
form_cons k c (tok t) α = omega arith
form_cons k c (rul r) α = omega arith

marked_cons : (m : Row) (x : Sym) (α : Form) → all_marked m (x ∷ α) ≡ (all_marked m (x ∷ []) && all_marked m α)
marked_cons m (tok t) α = refl
marked_cons m (rul r) α = go (m r)
  where
    go : (b : Bool) → (b && all_marked m α) ≡ ((b && true) && all_marked m α)
    go true = refl
    go false = refl

-- one symbol
module _ (k : ℕ → ℕ) (c : Costs) (s n : ℕ) where
  pub token_part : s < 32768 → n ≡ k s → n ≤ 65536 → Part k c s n
  token_part low e le = record { adds = rw (symbol_token s low) (omega (arith, e)); told = rw (symbol_token s low) (sym (le-leb n 65536 le)) }

  pub rule_part : 32768 ≤ s → n ≡ c (s - 32768) → Part k c s n
  rule_part high e = record { adds = rw (symbol_rule s high) (omega (arith, e)); told = rw (symbol_rule s high) (go (leb (c (s - 32768)) 65536) ∙ ap (λ z. leb z 65536) (sym e)) }
    where
      go : (b : Bool) → (b && true) ≡ b
      go true = refl
      go false = refl

-- before number i of `symbols[a..e]`: n is the sum so far, cut at 65536, and all parts so far are known
pub record Summed (k : ℕ → ℕ) (c : Costs) (symbols : List ℕ) (a e i n : ℕ) : Type 0 where
  pub high : a + i ≤ e
  pub cap : n ≤ 65536
  pub all : all_marked (known c) (form symbols a e) ≡ all_marked (known c) (form symbols (a + i) e)
  pub rest : min (form_cost k c (form symbols a e)) 65536 ≡ min (n + form_cost k c (form symbols (a + i) e)) 65536

module _ (k : ℕ → ℕ) (c : Costs) (symbols : List ℕ) (a e : ℕ) (rise : a ≤ e) (fits : e ≤ length symbols) where
  pub summed_start : Summed k c symbols a e 0 0
  summed_start = record { high = omega (arith, rise); cap = omega arith; all = rw (add-zero a); rest = rw (add-zero a) (omega arith) }

  module _ (i n : ℕ) (m : Summed k c symbols a e i n) where
    pub summed_end : length (span symbols a e) ≤ i → sum_cost k c (form symbols a e) ≡ n
    summed_end h =
        let d = span_done symbols a e fits i m.high h in
        rw (m.all ∙ ap (all_marked (known c)) d) (omega (arith, m.cap, m.rest, ap (form_cost k c) d))

    -- the whole sum is no less
    pub summed_least : n ≤ sum_cost k c (form symbols a e)
    summed_least = go (all_marked (known c) (form symbols a e))
      where
        go : (b : Bool) → n ≤ cond b (min (form_cost k c (form symbols a e)) 65536) 65537
        go true = omega (arith, m.cap, m.rest)
        go false = omega (arith, m.cap)

    module _ (h : i < length (span symbols a e)) (s : ℕ) (is : s ≡ at (span symbols a e) i) (x : ℕ) (p : Part k c s x) where
      left : form_cost k c (form symbols (a + i) e) ≡ x + form_cost k c (form symbols (a + (i + 1)) e)
      left = rw (span_more symbols a e fits i h s is) (form_cons k c (symbol s) (form symbols (a + (i + 1)) e) ∙ ap (λ z. z + form_cost k c (form symbols (a + (i + 1)) e)) p.adds)

      all_left : all_marked (known c) (form symbols a e) ≡ (leb x 65536 && all_marked (known c) (form symbols (a + (i + 1)) e))
      all_left = m.all ∙ rw (span_more symbols a e fits i h s is) (marked_cons (known c) (symbol s) (form symbols (a + (i + 1)) e) ∙ ap (λ z. z && all_marked (known c) (form symbols (a + (i + 1)) e)) p.told)

      -- an unknown part makes the sum unknown
      pub summed_unknown : 65536 < x → sum_cost k c (form symbols a e) ≡ 65537
      summed_unknown l = rw (all_left, lt-leb x 65536 l)

      pub summed_on : x ≤ 65536 → (to : ℕ) → to ≡ min (n + x) 65536 → Summed k c symbols a e (i + 1) to
      summed_on l to q = record {
        high = omega (arith, span_in symbols a e fits i h);
        cap = omega arith;
        all = all_left ∙ rw (le-leb x 65536 l);
        rest = omega (arith, m.rest, left);
      }

-- `symbol_cost`
module _ (costs cost : List ℕ) (s : ℕ) (ok : SymbolPriced costs cost s) (x : ℕ) where
  module _ (low : s < 32768) (ex : x ≡ s) where
    pub token_in : x < length costs
    token_in = omega (arith, ok.token low)

    pub token_costs : (n : ℕ) → n ≡ at costs x → n < 256 → Part (at costs) (costs_of cost) s n
    token_costs n e l = token_part (at costs) (costs_of cost) s n low (e ∙ ap (at costs) ex) (omega arith)

  module _ (high : 32768 ≤ s) (ex : x ≡ s - 32768) where
    pub rule_in : x < length cost
    rule_in = omega (arith, ok.rule high)

    pub rule_costs : (n : ℕ) → n ≡ at cost x → Part (at costs) (costs_of cost) s n
    rule_costs n e = rule_part (at costs) (costs_of cost) s n high (e ∙ sym (entry cost x rule_in) ∙ ap (costs_of cost) ex)

-- `sum`
abbrev pub CostSummed : (symbols costs : List ℕ) (a e : ℕ) (cost : List ℕ) (i n : ℕ) → Type 0
CostSummed symbols costs a e cost i n = Summed (at costs) (costs_of cost) symbols a e i n

module _ (symbols costs : List ℕ) (a e : ℕ) (cost : List ℕ) (ok : Pricing symbols costs a e cost) where
  pub sum_start : CostSummed symbols costs a e cost 0 0
  sum_start = summed_start (at costs) (costs_of cost) symbols a e ok.rise ok.fits

  module _ (i n : ℕ) (m : CostSummed symbols costs a e cost i n) where
    pub sum_end : length (span symbols a e) ≤ i → n ≡ sum_of costs cost (form symbols a e)
    unfolding sum_of
    sum_end h = sym (summed_end (at costs) (costs_of cost) symbols a e ok.rise ok.fits i n m h)

    module _ (h : i < length (span symbols a e)) (s : ℕ) (is : s ≡ at (span symbols a e) i) where
      pub sum_priced : SymbolPriced costs cost s
      sum_priced = rw (span_is symbols a e ok.fits i h s is) (ok.symbol (a + i) (omega (arith, ok.fits, span_in symbols a e ok.fits i h)))

      module _ (x : ℕ) (p : Part (at costs) (costs_of cost) s x) where
        pub sum_unknown : 65536 < x → 65537 ≡ sum_of costs cost (form symbols a e)
        unfolding sum_of
        sum_unknown l = sym (summed_unknown (at costs) (costs_of cost) symbols a e ok.rise ok.fits i n m h s is x p l)

        pub sum_on : x ≤ 65536 → (to : ℕ) → to ≡ min (n + x) 65536 → CostSummed symbols costs a e cost (i + 1) to
        sum_on = summed_on (at costs) (costs_of cost) symbols a e ok.rise ok.fits i n m h s is x p
