use Rattle.std.proofs.Common.{length}
use Rattle.engine.specs.First.{lent as firsts, marks_of}
use Rattle.engine.proofs.FollowWalking.{Walking}
use Rattle.engine.proofs.inner.follow.walk.Given as goal

abbrev pub invariant-loop-i : goal.invariant-loop-i
invariant-loop-i l =
    Walking l.g.rules (length l.g.costs.now) l.g.symbols.now l.q.from l.q.to l.q.owner (marks_of l.g.rules (length l.g.costs.now) (firsts l.first l.empty)) l.initial.follow l.ahead l.follow l.new l.null l.i
