use mathlib.Core.Path.{◌≡◌}
use lib.Dec.{leb}
use Rattle.theory.specs.Below.{some}
use Rattle.grammar.specs.Flat.{at}
use Rattle.grammar.proofs.owner_out.Given as goal

abbrev pub invariant-loop-owner : goal.invariant-loop-owner
invariant-loop-owner l = l.out ≡ some l.owner-index (λ k. leb l.rules (at l.owners k))
