use Rattle.blocks.specs.Refusals.{version_wrong}
use borrow.Author.Rules.{rules}
use Rattle.blocks.proofs.inner.writing.version_wrong.Goals as goal

pub returns : goal.returns
unfolding version_wrong
returns c = search rules
