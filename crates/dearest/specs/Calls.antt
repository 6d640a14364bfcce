-- The public call on the dearest costs, with its refusals in order.
use Rattle.grammar.specs.declared.refusal.Refusal.{Refusal}
use Rattle.std.specs.Prelude.{Result}
use Rattle.grammar.specs.Lent.{outcome_of}
use Rattle.std.specs.Prelude.{List, ℕ}
use Rattle.grammar.specs.Flat.{Flat}
use Rattle.tables.specs.Call.{Call, Leaves}
use Rattle.tables.specs.Sizes.{numbers_wrong}
use Rattle.costs.specs.Calls.{fill_due}
use Rattle.dearest.specs.Defined.{DearestDefined}

-- 1 to 6, then 7; else the defined table
abbrev pub Fill : Flat → List ℕ → Result (Unit {0}) Refusal → List ℕ → Type 0
Fill g ws r to = Call (fill_due g (numbers_wrong g.rules ws)) (Leaves (DearestDefined g)) ws (outcome_of r) to
