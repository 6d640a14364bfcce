use Prim.Native.Nat.{◌-◌}
use lib.ListN.{length}
use Rattle.paths.proofs.Going.{Tracing}
use Rattle.paths.specs.Lists.{work}
use Rattle.paths.proofs.inner.rule.Given as goal

abbrev pub invariant-loop-p : goal.invariant-loop-p
invariant-loop-p l = Tracing l.g.owners.now l.g.starts.now l.g.symbols.now l.r (work l.n l.initial.list l.initial.seen) (work l.m l.list l.seen) l.p

abbrev pub decreases-loop-p : goal.decreases-loop-p
decreases-loop-p l = length l.g.owners.now - l.p
