use Rattle.blocks.proofs.Steps.{check_is}
use borrow.Author.Rules.{rules}
use Rattle.blocks.proofs.inner.check_differs.Goals as goal

pub returns : goal.returns
returns c = search (rules, check_is)
