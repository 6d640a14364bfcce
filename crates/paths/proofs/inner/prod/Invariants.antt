use Prim.Native.Nat.{◌+◌}
use Rattle.paths.proofs.Going.{Going}
use Rattle.paths.specs.Lists.{work}
use Rattle.paths.proofs.inner.prod.Given as goal

abbrev pub invariant-loop-s : goal.invariant-loop-s
invariant-loop-s l = Going l.symbols l.a l.e (work l.n l.initial.list l.initial.seen) (work l.m l.list l.seen) (l.a + l.s-index)
