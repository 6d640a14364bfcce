use Rattle.jobs.proofs.Calling.{wrong_first, wrong_follow, wrong_row, wrong_cost}
use borrow.Author.Rules.{rules}
use Rattle.jobs.proofs.inner.wrong.Goals as goal

pub returns-in-First : goal.returns-in-First
returns-in-First c = search (rules, wrong_first)

pub returns-in-Follow : goal.returns-in-Follow
returns-in-Follow c = search (rules, wrong_follow)

pub returns-in-Productive : goal.returns-in-Productive
returns-in-Productive c = search (rules, wrong_row)

pub returns-in-Cost : goal.returns-in-Cost
returns-in-Cost c = search (rules, wrong_cost)
