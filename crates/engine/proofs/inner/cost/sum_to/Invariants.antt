use Rattle.engine.proofs.Reading.{SummedRead}
use Rattle.engine.proofs.inner.cost.sum_to.Given as goal

abbrev pub invariant-loop-s : goal.invariant-loop-s
invariant-loop-s l = SummedRead l.g.symbols.now l.g.costs.now l.fn.q.from l.fn.q.to l.cost l.initial.read l.top l.s-index l.n l.read
