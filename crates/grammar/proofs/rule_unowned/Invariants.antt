use mathlib.Core.Bool.{not, false}
use mathlib.Core.Path.{◌≡◌}
use Rattle.theory.specs.Below.{some}
use Rattle.grammar.specs.Refusals.{owns}
use Rattle.grammar.proofs.rule_unowned.Given as goal

abbrev pub invariant-loop-r : goal.invariant-loop-r
invariant-loop-r l = some l.r (λ k. not (owns l.owners k)) ≡ false
