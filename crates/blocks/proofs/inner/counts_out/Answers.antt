use Rattle.blocks.proofs.Steps.{out_is}
use borrow.Author.Rules.{rules}
use Rattle.blocks.proofs.inner.counts_out.Goals as goal

pub returns : goal.returns
returns c = search (rules, out_is)
