-- The calls on the house grammar: those below, without a grammar to give and without refusals 1 to 6 and 12 to 14.
use Rattle.grammar.specs.declared.refusal.Refusal.{Refusal}
use Rattle.std.specs.Prelude.{Result}
use Rattle.grammar.specs.Lent.{outcome_of}
use Rattle.std.specs.Prelude.{Bool, ◌||◌, ◌≡◌, ℕ, ◌≤◌, ◌<◌, leb, length}
use mathlib.Core.List.{List, Memᴰ}
use Rattle.theory.specs.Definitions.{Cost}
use Rattle.theory.specs.Entries.{cost_max}
use Rattle.grammar.specs.Flat.{denoted, price}
use Rattle.grammar.specs.Outcome.{Outcome, answers, refused, unless}
use Rattle.rows.specs.Marks.{mark}
use Rattle.tables.specs.Call.{Call, Leaves}
use Rattle.tables.specs.Sizes.{words, table_wrong, row_wrong, numbers_wrong}
use Rattle.firsts.specs.Calls.{lent_wrong, Defined}
use Rattle.engine.specs.First.{Lent, lent}
use Rattle.engine.specs.Cost.{costs_of}
use Rattle.costs.specs.Defined.{CostDefined}
use Rattle.sentences.specs.Measuring.{LengthsDefined}
use Rattle.sentences.specs.Query.{Lends, lends, Refuses, Writes}
use Rattle.house.specs.Table.{house, cheapest_row}

-- FIRST and EMPTY: 7
abbrev pub first_due : Lent → Outcome (Unit {0})
first_due l = unless (lent_wrong house l) 7 (answers tt)

abbrev pub FillFirst : (first empty : List ℕ) → Result (Unit {0}) Refusal → (first' empty' : List ℕ) → Type 0
FillFirst first empty r first' empty' = Call (first_due (lent first empty)) (Leaves (Defined house)) (lent first empty) (outcome_of r) (lent first' empty')

-- a mark by rule and token: 7, 9, 10
abbrev pub is_first_of : List ℕ → (r t : ℕ) → Outcome Bool
is_first_of first r t =
    unless (table_wrong house.rules (length house.costs) first) 7
    (unless (leb house.rules r) 9
    (unless (leb (length house.costs) t) 10 (answers (mark (words (length house.costs)) first r t))))

-- a mark by rule: 7, 9
abbrev pub is_empty_of : List ℕ → (r : ℕ) → Outcome Bool
is_empty_of empty r = unless (row_wrong house.rules empty) 7 (unless (leb house.rules r) 9 (answers (mark (words house.rules) empty 0 r)))

-- COST: 7
abbrev pub FillCost : List ℕ → Result (Unit {0}) Refusal → List ℕ → Type 0
FillCost cost r cost' = Call (unless (numbers_wrong house.rules cost) 7 (answers tt)) (Leaves (CostDefined house)) cost (outcome_of r) cost'

-- a rule's cost: 7, 9
abbrev pub cost_due : ℕ → List ℕ → Outcome (Unit {0})
cost_due r cost = unless (numbers_wrong house.rules cost) 7 (unless (leb house.rules r) 9 (answers tt))

-- COST holds its final values, and the answer is the least cost of a sentence of the rule
pub record Prices (r : ℕ) (said : Outcome ℕ) (after : List ℕ) : Type 0 where
  pub cost : CostDefined house after
  pub least : ℕ
  pub fits : least ≤ cost_max
  pub is : Cost (denoted house) (price house) r least
  pub answer : said ≡ answers least

abbrev pub MinCost : ℕ → (cost : List ℕ) → Result ℕ Refusal → (cost' : List ℕ) → Type 0
MinCost r cost a cost' = Call (cost_due r cost) (Prices r) cost (outcome_of a) cost'

-- the cheapest row: 7, and then 15 where the room is too short for it
abbrev pub row_due : Lends → Outcome (Unit {0})
row_due m = unless (numbers_wrong house.rules m.cost || numbers_wrong house.rules m.lengths) 7 (answers tt)

-- the working tables hold their final values, and the row stands at the front of the output if there is room for it
pub record RowWritten (out : List ℕ) (said : Outcome ℕ) (after : Lends) : Type 0 where
  pub cost : CostDefined house after.cost
  pub lengths : LengthsDefined house (costs_of after.cost) after.lengths
  pub short : length out < length cheapest_row → Refuses 15 out said after.out
  pub is : length cheapest_row ≤ length out → Writes cheapest_row out said after.out

abbrev pub CheapestRow : (cost lengths out : List ℕ) → Result ℕ Refusal → (cost' lengths' out' : List ℕ) → Type 0
CheapestRow cost lengths out a cost' lengths' out' = Call (row_due (lends cost lengths out)) (RowWritten out) (lends cost lengths out) (outcome_of a) (lends cost' lengths' out')

-- an answer, or a refusal by one of these numbers
pub data Gives {A : Type 0} (ns : List ℕ) : Outcome A → Type 0 where
  answer : (a : A) → Gives ns (answers a)
  refusal : {n : ℕ} → Memᴰ n ns → Gives ns (refused n)
