use Rattle.std.proofs.Common.{length}
use Rattle.engine.proofs.Tailing.{Tailing}
use Rattle.engine.proofs.inner.follow.tail.Given as goal

abbrev pub invariant-loop-s : goal.invariant-loop-s
invariant-loop-s l =
    Tailing l.g.rules (length l.g.costs.now) l.g.symbols.now l.q.from l.q.to l.q.owner l.empty l.initial.follow l.follow l.new (length l.yielded)
