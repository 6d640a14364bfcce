use Rattle.odometer.proofs.Turning.{Turning, Turned}
use Rattle.odometer.proofs.inner.turn.Given as goal

abbrev pub invariant-loop-j : goal.invariant-loop-j
invariant-loop-j l = Turned l.bases l.m l.k l.initial.todo l.left l.todo l.j

abbrev pub decreases-loop-j : goal.decreases-loop-j
decreases-loop-j l = l.j

abbrev pub invariant-turns : goal.invariant-turns
invariant-turns l = Turning l.bases l.m l.k l.initial.todo l.todo l.left

abbrev pub decreases-turns : goal.decreases-turns
decreases-turns l = l.left
