use Rattle.blocks.proofs.Steps.{free_other, free_file}
use borrow.Author.Rules.{rules}
use Rattle.blocks.proofs.inner.file_free.Goals as goal

pub returns-then-c-ne2 : goal.returns-then-c-ne2
returns-then-c-ne2 c = search (rules, free_other)

pub returns : goal.returns
returns c = search (rules, free_file)
