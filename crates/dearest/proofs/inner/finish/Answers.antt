use Rattle.dearest.proofs.Finishing.{finish_start, finish_on, finish_end}
use borrow.Author.Rules.{rules}
use Rattle.dearest.proofs.inner.finish.Goals as goal

pub loop-x-init : goal.loop-x-init
loop-x-init c = search (rules, finish_start)

pub loop-x-preserved : goal.loop-x-preserved
loop-x-preserved c = search (rules, finish_on)

pub returns : goal.returns
returns c = search (rules, finish_end)
