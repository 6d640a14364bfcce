use Rattle.grammar.specs.Lent.{flat_of}
use Rattle.dearest.proofs.Rounding.{DearestTurned}
use Rattle.dearest.proofs.inner.round.Given as goal

abbrev pub invariant-loop-i : goal.invariant-loop-i
invariant-loop-i l = DearestTurned (flat_of l.g) l.beyond l.down l.i l.initial.dearest l.changed l.dearest
