use Rattle.engine.proofs.Summing.{CostSummed}
use Rattle.costs.proofs.inner.sum.Given as goal

abbrev pub invariant-loop-s : goal.invariant-loop-s
invariant-loop-s l = CostSummed l.symbols l.costs l.a l.e l.cost l.s-index l.n
