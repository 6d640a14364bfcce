use Rattle.engine.proofs.Summing.{sum_start, sum_priced, sum_unknown, sum_on, sum_end}
use borrow.Author.Rules.{rules}
use Rattle.costs.proofs.inner.sum.Goals as goal

pub loop-s-init : goal.loop-s-init
loop-s-init c = search (rules, sum_start)

pub symbol_cost-x-requires : goal.symbol_cost-x-requires
symbol_cost-x-requires c = search (rules, sum_priced)

pub returns-then-x-gt-COST_DEAR : goal.returns-then-x-gt-COST_DEAR
returns-then-x-gt-COST_DEAR c = search (rules, sum_unknown)

pub loop-s-preserved : goal.loop-s-preserved
loop-s-preserved c = search (rules, sum_on)

pub returns : goal.returns
returns c = search (rules, sum_end)
