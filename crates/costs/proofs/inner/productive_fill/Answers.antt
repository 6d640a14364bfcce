use Rattle.costs.proofs.Filling.{row_fill_begun, row_fill_left}
use borrow.Author.Rules.{rules}
use Rattle.costs.proofs.inner.productive_fill.Goals as goal

pub settle-requires : goal.settle-requires
settle-requires c = search (rules, row_fill_begun)

pub returns : goal.returns
returns c = search (rules, row_fill_left)
