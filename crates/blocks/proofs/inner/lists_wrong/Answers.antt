use Rattle.blocks.specs.Refusals.{lists_wrong}
use borrow.Author.Rules.{rules}
use Rattle.blocks.proofs.inner.lists_wrong.Goals as goal

pub returns : goal.returns
unfolding lists_wrong
returns c = search rules
