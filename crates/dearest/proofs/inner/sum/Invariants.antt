use Rattle.std.proofs.Common.{length}
use Rattle.dearest.proofs.Summing.{Summed}
use Rattle.dearest.proofs.inner.sum.Given as goal

abbrev pub invariant-loop-s : goal.invariant-loop-s
invariant-loop-s l = Summed l.symbols l.costs l.a l.e l.dearest (length l.yielded) l.n
