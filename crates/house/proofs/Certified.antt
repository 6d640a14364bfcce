-- A grammar's costs and first choices, given as two lists and tested once over the whole table: what the test says of each rule.
use mathlib.Core.Bool.{Bool, true, false, not, ◌&&◌, true≢false}
use mathlib.Core.List.{List, [], ◌∷◌}
use mathlib.Core.Logic.{inl, inr}
use mathlib.Core.Path.{◌≡◌, refl, sym, ◌∙◌, ap, subst, fun_ext}
use Prim.Native.Nat.{ℕ, ◌≤◌, ◌<◌, min}
use native.Mathlib.Decide.{dec_lt}
use native.Mathlib.Omega.{arith}
use lib.Dec.{eqb, leb, ltb}
use lib.ListN.{length, get_or, get_or-eq_default}
use borrow.Author.Tests.{eqb-true, leb-true, ltb-true, ltb-false, lt-ltb, le-ltb, not-true, not-false}
use Rattle.theory.specs.Below.{some, FirstBelow}
use Rattle.theory.specs.Definitions.{Costing}
use Rattle.theory.specs.Grammar.{rul}
use Rattle.theory.specs.Levels.{suits, within, expanded, Chosen}
use Rattle.theory.specs.Rounds.{Rest}
use Rattle.theory.specs.Sentences.{Grounded}
use Rattle.theory.specs.Tables.{CostTrue, CostExact}
use Rattle.theory.specs.Visits.{Costs, form_cost, sum_cost, cost_visit}
use Rattle.theory.proofs.Below.{none_at}
use Rattle.theory.proofs.Bools.{and_split}
use Rattle.theory.proofs.Choices.{chosen_all}
use Rattle.theory.proofs.Cost.{sum_cases, visit_cases, cost_rest_exact, costs_one}
use Rattle.theory.proofs.Levels.{within_expands, grounded_levels}
use Rattle.theory.proofs.Sentences.{sentence_of}
use Rattle.grammar.specs.Flat.{Flat, denoted, price}
use Rattle.grammar.specs.Well.{WellFormed}
use Rattle.grammar.proofs.Denoted.{proper}
use Rattle.engine.specs.Cost.{costs_of}
use Rattle.sentences.specs.Lent.{choices_of}

-- production p costs less than its owner's entry
abbrev pub cheaper : Flat → List ℕ → ℕ → Bool
cheaper g least p = ltb (form_cost (price g) (costs_of least) ((denoted g).body p)) (costs_of least ((denoted g).owner p))

-- rule r's choice is its first production whose cost is its entry, at most 65535, and it is grounded
abbrev pub chosen : Flat → (least choice : List ℕ) → ℕ → Bool
chosen g least choice r =
    ltb ((choices_of choice).prod r) (denoted g).prods
    && (suits (denoted g) (price g) (costs_of least) r ((choices_of choice).prod r)
    && (not (some ((choices_of choice).prod r) (suits (denoted g) (price g) (costs_of least) r)) && within (denoted g) (choices_of choice) g.rules r))

-- the test
abbrev pub certified : Flat → (least choice : List ℕ) → Bool
certified g least choice =
    eqb (length least) g.rules && (eqb (length choice) g.rules && (not (some (denoted g).prods (cheaper g least)) && not (some g.rules (λ r. not (chosen g least choice r)))))

module _ (g : Flat) (w : WellFormed g) (least choice : List ℕ) (e : certified g least choice ≡ true) where
  abbrev c : Costs
  c = costs_of least

  long_least : length least ≡ g.rules
  long_least = eqb-true _ _ (and_split (eqb (length least) g.rules) _ e).0

  rest₁ : (eqb (length choice) g.rules && (not (some (denoted g).prods (cheaper g least)) && not (some g.rules (λ r. not (chosen g least choice r))))) ≡ true
  rest₁ = (and_split (eqb (length least) g.rules) _ e).1

  long_choice : length choice ≡ g.rules
  long_choice = eqb-true _ _ (and_split (eqb (length choice) g.rules) _ rest₁).0

  rest₂ : (not (some (denoted g).prods (cheaper g least)) && not (some g.rules (λ r. not (chosen g least choice r)))) ≡ true
  rest₂ = (and_split (eqb (length choice) g.rules) _ rest₁).1

  -- no production costs less than its owner
  none_cheaper : (p : ℕ) → p < (denoted g).prods → c ((denoted g).owner p) ≤ form_cost (price g) c ((denoted g).body p)
  none_cheaper p lt = ltb-false _ _ (none_at (cheaper g least) (denoted g).prods p (not-true _ (and_split (not (some (denoted g).prods (cheaper g least))) _ rest₂).0) lt)

  module _ (r : ℕ) (lr : r < g.rules) where
    is_chosen : chosen g least choice r ≡ true
    is_chosen = not-false _ (none_at (λ r. not (chosen g least choice r)) g.rules r (not-true _ (and_split (not (some (denoted g).prods (cheaper g least))) _ rest₂).1) lr)

    chosen₁ : (suits (denoted g) (price g) c r ((choices_of choice).prod r) && (not (some ((choices_of choice).prod r) (suits (denoted g) (price g) c r)) && within (denoted g) (choices_of choice) g.rules r)) ≡ true
    chosen₁ = (and_split (ltb ((choices_of choice).prod r) (denoted g).prods) _ is_chosen).1

    chosen₂ : (not (some ((choices_of choice).prod r) (suits (denoted g) (price g) c r)) && within (denoted g) (choices_of choice) g.rules r) ≡ true
    chosen₂ = (and_split (suits (denoted g) (price g) c r ((choices_of choice).prod r)) _ chosen₁).1

    prod_below : (choices_of choice).prod r < (denoted g).prods
    prod_below = ltb-true _ _ (and_split (ltb ((choices_of choice).prod r) (denoted g).prods) _ is_chosen).0

    prod_suits : suits (denoted g) (price g) c r ((choices_of choice).prod r) ≡ true
    prod_suits = (and_split (suits (denoted g) (price g) c r ((choices_of choice).prod r)) _ chosen₁).0

    prod_first : some ((choices_of choice).prod r) (suits (denoted g) (price g) c r) ≡ false
    prod_first = not-true _ (and_split (not (some ((choices_of choice).prod r) (suits (denoted g) (price g) c r))) _ chosen₂).0

    grounded_within : within (denoted g) (choices_of choice) g.rules r ≡ true
    grounded_within = (and_split (not (some ((choices_of choice).prod r) (suits (denoted g) (price g) c r))) _ chosen₂).1

    -- each rule's entry is a cost
    pub priced : c r ≤ 65535
    priced = leb-true (c r) 65535 (and_split (leb (c r) 65535) _ (and_split (eqb r ((denoted g).owner ((choices_of choice).prod r))) _ prod_suits).1).0

  -- the lists outside the rules
  out : (r : ℕ) → g.rules ≤ r → c r ≡ 65537
  unfolding costs_of
  out r le = get_or-eq_default least 65537 (omega (arith, long_least))

  cap : (r : ℕ) → c r ≤ 65537
  cap r = elim (dec_lt r g.rules) [ yes l ↦ omega (arith, priced r l) | no l ↦ omega (arith, out r (omega arith)) ]

  first_below : (r : ℕ) → FirstBelow (suits (denoted g) (price g) c r) (denoted g).prods ((choices_of choice).has r) ((choices_of choice).prod r)
  unfolding choices_of
  first_below r = elim (dec_lt r g.rules) [
    | yes l ↦ record {
      below = λ y. prod_below r l;
      passes = λ y. prod_suits r l;
      first = λ y i lt. none_at (suits (denoted g) (price g) c r) ((choices_of choice).prod r) i (prod_first r l) lt;
      none = λ y. absurd (true≢false (sym (lt-ltb (get_or choice r 4096) 4096 (omega (arith, prod_below r l, w.sizes.prods_high))) ∙ y));
    }
    | no l ↦
        let past : get_or choice r 4096 ≡ 4096 = get_or-eq_default choice 4096 (omega (arith, long_choice)) in
        let none : ltb (get_or choice r 4096) 4096 ≡ false = le-ltb (get_or choice r 4096) 4096 (omega arith) in
        record {
          below = λ y. absurd (true≢false (sym y ∙ none));
          passes = λ y. absurd (true≢false (sym y ∙ none));
          first = λ y. absurd (true≢false (sym y ∙ none));
          none = λ y i lt. outside r i (omega arith) lt;
        }
  ]
    where
      outside : (r i : ℕ) → g.rules ≤ r → i < (denoted g).prods → suits (denoted g) (price g) c r i ≡ false
      outside r i le lt = go (eqb r ((denoted g).owner i)) refl
        where
          go : (b : Bool) → eqb r ((denoted g).owner i) ≡ b → (b && (leb (c r) 65535 && eqb (form_cost (price g) c ((denoted g).body i)) (c r))) ≡ false
          go true q = absurd (omega (arith, eqb-true r _ q, w.owner i lt))
          go false q = refl

  pub picks : Chosen (denoted g) (price g) c (choices_of choice)
  picks = chosen_all (denoted g) (price g) c (choices_of choice) first_below

  -- no visit changes the entries
  owner_upto : (p : ℕ) → p < (denoted g).prods → c ((denoted g).owner p) ≤ sum_cost (price g) c ((denoted g).body p)
  owner_upto p lt = elim (sum_cases (price g) c ((denoted g).body p)) [
    | inl q ↦ omega (arith, q.1, none_cheaper p lt, priced ((denoted g).owner p) (w.owner p lt))
    | inr q ↦ omega (arith, q.1, cap ((denoted g).owner p))
  ]

  still : Rest (cost_visit (denoted g) (price g)) (denoted g).prods c
  still p lt = fun_ext (λ r. elim (visit_cases (denoted g) (price g) p c cap r) [
    | inl q ↦ q.1 ∙ (let m : min (c r) (sum_cost (price g) c ((denoted g).body p)) ≡ c r = omega (arith, owner_upto p lt, ap c q.0) in m)
    | inr q ↦ q
  ])

  -- each rule has a sentence of its entry's cost
  sentence_at_law : (r : ℕ) → r < g.rules → Costing (denoted g) (price g) r (c r)
  sentence_at_law r l = let s = sentence_of (within_expands (denoted g) (price g) c (proper g w) (choices_of choice) picks g.rules r (grounded_within r l)) in (expanded (denoted g) (choices_of choice) g.rules r, s.0, s.1)

  held : CostTrue (denoted g) (price g) c
  held = record {
    cap = cap;
    held = λ r le. elim (dec_lt r g.rules) [ yes l ↦ sentence_at_law r l | no l ↦ absurd (omega (arith, out r (omega arith))) ];
    dear = λ r le. elim (dec_lt r g.rules) [ yes l ↦ let s = sentence_at_law r l in (s.0, s.1) | no l ↦ absurd (omega (arith, out r (omega arith))) ];
  }

  -- so the entries are COST
  pub exact : CostExact (denoted g) (price g) c
  exact = cost_rest_exact (denoted g) (price g) c cap still held

  -- and by every COST table every rule has a sentence, a cost, and no circular choice
  module _ (t : Costs) (x : CostExact (denoted g) (price g) t) where
    pub same_costs : c ≡ t
    same_costs = costs_one (denoted g) (price g) c t exact x

    pub grounded : (r : ℕ) → r < g.rules → Grounded (denoted g) (price g) t (rul r ∷ [])
    grounded r l = subst (λ z. Grounded (denoted g) (price g) z (rul r ∷ [])) same_costs ((grounded_levels (denoted g) (price g) c (proper g w) (choices_of choice) picks r).1 (grounded_within r l))
