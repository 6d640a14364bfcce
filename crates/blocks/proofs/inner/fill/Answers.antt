use Rattle.blocks.proofs.Steps.{fills}
use borrow.Author.Rules.{rules}
use Rattle.blocks.proofs.inner.fill.Goals as goal

pub returns : goal.returns
returns c = search (rules, fills)
