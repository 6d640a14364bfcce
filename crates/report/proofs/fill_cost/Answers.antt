use Rattle.report.proofs.Filling.{cost_done, cost_full}
use borrow.Author.Rules.{rules}
use Rattle.report.proofs.fill_cost.Goals as goal

pub unwrap-requires : goal.unwrap-requires
unwrap-requires c = search (rules, cost_done)

pub returns : goal.returns
returns c = search (rules, cost_full)
