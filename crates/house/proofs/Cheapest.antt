-- The house grammar's costs and first choices, computed once over the whole table.
use mathlib.Core.List.{List, [], ◌∷◌}
use mathlib.Core.Path.{◌≡◌, refl, subst}
use mathlib.Core.Bool.{true}
use Prim.Native.Nat.{ℕ, ◌≤◌, ◌<◌}
use Rattle.theory.specs.Below.{some}
use Rattle.theory.specs.Grammar.{rul}
use Rattle.theory.specs.Sentences.{Grounded, Expands}
use Rattle.theory.specs.Tables.{CostExact}
use Rattle.theory.specs.Visits.{Costs}
use Rattle.theory.proofs.Levels.{within_expands}
use Rattle.grammar.specs.Flat.{denoted, price}
use Rattle.grammar.proofs.Denoted.{proper}
use Rattle.engine.specs.Cost.{costs_of}
use Rattle.sentences.specs.Lent.{choices_of}
use Rattle.house.specs.Table.{owners, starts, symbols, costs, house, cheapest_row}
use Rattle.house.proofs.Formed.{formed}
use Rattle.house.proofs.Certified.{certified, picks, priced as is_priced, same_costs, grounded as is_grounded}

-- the least cost of each rule's sentences, and its first choice
unfoldable least : List ℕ
least =
    46 ∷ 46 ∷ 3 ∷ 3 ∷ 3 ∷ 3 ∷ 3 ∷ 3 ∷ 3 ∷ 3 ∷ 3 ∷ 3 ∷ 3 ∷ 3 ∷ 0 ∷ 0 ∷ 0 ∷ 0 ∷ 0 ∷ 0 ∷ 0 ∷ 0 ∷ 0 ∷ 0 ∷ 0 ∷ 0 ∷ 0 ∷ 0 ∷ 0 ∷ 0 ∷ 0 ∷ 0 ∷ 0 ∷ 0 ∷ 0 ∷ 0 ∷ 0 ∷ 0 ∷ 0 ∷ 0 ∷ 0 ∷ 0 ∷ 0 ∷ 0 ∷ 0 ∷ 0 ∷ 0 ∷ 0 ∷ 0 ∷ 0 ∷ 9 ∷ 5 ∷ 3 ∷ 1 ∷ 1 ∷ 1 ∷ 0 ∷ 0 ∷ []

unfoldable choice : List ℕ
choice =
    0 ∷ 1 ∷ 2 ∷ 3 ∷ 4 ∷ 5 ∷ 6 ∷ 7 ∷ 8 ∷ 9 ∷ 10 ∷ 11 ∷ 12 ∷ 13 ∷ 15 ∷ 17 ∷ 19 ∷ 21 ∷ 23 ∷ 25 ∷ 27 ∷ 29 ∷ 31 ∷ 33 ∷ 35 ∷ 37 ∷ 39 ∷ 41 ∷ 43 ∷ 45 ∷ 47 ∷ 49 ∷ 51 ∷ 53 ∷ 55 ∷ 57 ∷ 59 ∷ 61 ∷ 63 ∷ 65 ∷ 67 ∷ 69 ∷ 71 ∷ 73 ∷ 75 ∷ 77 ∷ 79 ∷ 81 ∷ 83 ∷ 85 ∷ 86 ∷ 87 ∷ 88 ∷ 89 ∷ 90 ∷ 91 ∷ 93 ∷ 95 ∷ []

tested : certified house least choice ≡ true
unfolding owners starts symbols costs least choice some costs_of choices_of
tested = refl

module _ (t : Costs) (x : CostExact (denoted house) (price house) t) where
  -- so every rule has a sentence that costs at most 65535: 12 and 13 never occur
  pub priced : (r : ℕ) → r < house.rules → t r ≤ 65535
  priced r l = subst (λ (z : Costs). z r ≤ 65535) (same_costs house formed least choice tested t x) (is_priced house formed least choice tested r l)

  -- and no circular choice: 14 never occurs
  pub grounded : (r : ℕ) → r < house.rules → Grounded (denoted house) (price house) t (rul r ∷ [])
  grounded = is_grounded house formed least choice tested t x

  -- the start's sentence is the row
  pub row_is : Expands (denoted house) (price house) t (rul 0 ∷ []) cheapest_row
  unfolding owners starts symbols costs choice choices_of cheapest_row
  row_is = subst (λ (z : Costs). Expands (denoted house) (price house) z (rul 0 ∷ []) cheapest_row) (same_costs house formed least choice tested t x)
      (within_expands (denoted house) (price house) (costs_of least) (proper house formed) (choices_of choice) (picks house formed least choice tested) house.rules 0 refl)
