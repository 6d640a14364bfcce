use Rattle.costs.proofs.Filling.{cost_fill_begun, cost_fill_left}
use borrow.Author.Rules.{rules}
use Rattle.costs.proofs.inner.cost_fill.Goals as goal

pub settle-requires : goal.settle-requires
settle-requires c = search (rules, cost_fill_begun)

pub returns : goal.returns
returns c = search (rules, cost_fill_left)
