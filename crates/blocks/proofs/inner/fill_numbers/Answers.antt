use borrow.Author.Rules.{rules}
use Rattle.blocks.specs.Layout.{numbers}
use Rattle.blocks.proofs.Lists.{fill_start, fill_on, fill_end}
use Rattle.blocks.proofs.inner.fill_numbers.Goals as goal

pub loop-k-init : goal.loop-k-init
loop-k-init c = search (rules, fill_start)

pub loop-k-preserved : goal.loop-k-preserved
loop-k-preserved c = search (rules, fill_on)

pub returns : goal.returns
unfolding numbers
returns c = search (rules, fill_end)
