use Rattle.dearest.proofs.Filling.{fill_cleared, fill_defined}
use borrow.Author.Rules.{rules}
use Rattle.dearest.proofs.inner.dearest_fill.Goals as goal

pub settle-requires : goal.settle-requires
settle-requires c = search (rules, fill_cleared)

pub returns : goal.returns
returns c = search (rules, fill_defined)
