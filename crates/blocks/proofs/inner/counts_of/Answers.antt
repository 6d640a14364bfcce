use Rattle.blocks.proofs.Steps.{counts_are}
use borrow.Author.Rules.{rules}
use Rattle.blocks.proofs.inner.counts_of.Goals as goal

pub returns : goal.returns
returns c = search (rules, counts_are)
