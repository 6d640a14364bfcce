use mathlib.Core.Bool.{false}
use mathlib.Core.Bool.{not, ◌&&◌}
use mathlib.Core.Path.{◌≡◌}
use lib.Dec.{eqb}
use Rattle.theory.specs.Below.{some}
use Rattle.grammar.specs.Flat.{at}
use Rattle.grammar.specs.Refusals.{one_rule}
use Rattle.grammar.proofs.start_long.Given as goal

abbrev pub invariant-loop-p : goal.invariant-loop-p
invariant-loop-p l = some l.p (λ k. eqb (at l.owners k) 0 && not (one_rule l.starts l.symbols k)) ≡ false
