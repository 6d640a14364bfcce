use Rattle.blocks.proofs.Steps.{blocks_other, blocks_due_law}
use borrow.Author.Rules.{rules}
use Rattle.blocks.proofs.inner.blocks_wrong.Goals as goal

pub returns-then-file-end : goal.returns-then-file-end
returns-then-file-end c = search (rules, blocks_other)

pub returns : goal.returns
returns c = search (rules, blocks_due_law)
