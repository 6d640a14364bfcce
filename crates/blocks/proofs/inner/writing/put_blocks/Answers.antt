use Rattle.blocks.proofs.Writing.{blocks_start, blocks_on, blocks_end}
use borrow.Author.Rules.{rules}
use Rattle.blocks.proofs.inner.writing.put_blocks.Goals as goal

pub loop-b-init : goal.loop-b-init
loop-b-init c = search (rules, blocks_start)

pub loop-b-preserved : goal.loop-b-preserved
loop-b-preserved c = search (rules, blocks_on)

pub returns : goal.returns
returns c = search (rules, blocks_end)
