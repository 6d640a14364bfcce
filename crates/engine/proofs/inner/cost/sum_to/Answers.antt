use Rattle.engine.proofs.Reading.{reading_start, reading_ready, reading_below, reading_known, reading_unknown, reading_cut, reading_end}
use borrow.Author.Rules.{rules}
use Rattle.engine.proofs.inner.cost.sum_to.Goals as goal

pub loop-s-init : goal.loop-s-init
loop-s-init c = search (rules, reading_start)

pub read_cost-x-requires : goal.read_cost-x-requires
read_cost-x-requires c = search (rules, reading_ready)

pub loop-s-preserved-then-x-top : goal.loop-s-preserved-then-x-top
loop-s-preserved-then-x-top c = search (rules, reading_below)

pub returns-then-top-le-COST_DEAR : goal.returns-then-top-le-COST_DEAR
returns-then-top-le-COST_DEAR c = search (rules, reading_known)

pub returns-then-x-gt-COST_DEAR : goal.returns-then-x-gt-COST_DEAR
returns-then-x-gt-COST_DEAR c = search (rules, reading_unknown)

pub loop-s-preserved : goal.loop-s-preserved
loop-s-preserved c = search (rules, reading_cut)

pub returns : goal.returns
returns c = search (rules, reading_end)
