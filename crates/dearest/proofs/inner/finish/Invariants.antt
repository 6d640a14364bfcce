use Rattle.dearest.proofs.Finishing.{Finished}
use Rattle.dearest.proofs.inner.finish.Given as goal

abbrev pub invariant-loop-x : goal.invariant-loop-x
invariant-loop-x l = Finished l.initial.dearest l.x-index l.dearest
