use Prim.Native.Nat.{◌-◌}
use lib.ListN.{length}
use Rattle.paths.proofs.Turning.{Turning}
use Rattle.paths.specs.Lists.{work}
use Rattle.paths.proofs.inner.turns.Given as goal

abbrev pub invariant-loop-from : goal.invariant-loop-from
invariant-loop-from l = Turning l.g.owners.now l.g.starts.now l.g.symbols.now l.head l.next l.from l.to (length l.initial.list) (work l.n l.list l.seen) l.r l.done

abbrev pub decreases-loop-from : goal.decreases-loop-from
decreases-loop-from l = length l.list - l.done
