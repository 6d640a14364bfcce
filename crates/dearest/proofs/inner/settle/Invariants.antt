use Rattle.grammar.specs.Lent.{flat_of}
use Rattle.dearest.proofs.Rounding.{DearestStage, dearest_left}
use Rattle.dearest.proofs.inner.settle.Given as goal

abbrev pub invariant-loop-changed : goal.invariant-loop-changed
invariant-loop-changed l = DearestStage (flat_of l.g) l.i l.changed l.dearest

abbrev pub decreases-loop-changed : goal.decreases-loop-changed
decreases-loop-changed l = dearest_left (flat_of l.g) l.i l.changed l.dearest
