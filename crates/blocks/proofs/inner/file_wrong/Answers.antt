use Rattle.blocks.specs.Refusals.{file_wrong}
use borrow.Author.Rules.{rules}
use Rattle.blocks.proofs.inner.file_wrong.Goals as goal

pub returns : goal.returns
unfolding file_wrong
returns c = search rules
