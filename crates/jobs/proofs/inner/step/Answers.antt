use Rattle.jobs.proofs.Numbers.{ready_first, made_first, ready_follow, made_follow, ready_row, made_row, ready_cost, made_cost}
use borrow.Author.Rules.{rules}
use Rattle.jobs.proofs.inner.step.Goals as goal

pub step-requires : goal.step-requires
step-requires c = search (rules, ready_first)

pub returns-in-First : goal.returns-in-First
returns-in-First c = search (rules, made_first)

pub step-requires-in-Follow : goal.step-requires-in-Follow
step-requires-in-Follow c = search (rules, ready_follow)

pub returns-in-Follow : goal.returns-in-Follow
returns-in-Follow c = search (rules, made_follow)

pub step-requires-in-Productive : goal.step-requires-in-Productive
step-requires-in-Productive c = search (rules, ready_row)

pub returns-in-Productive : goal.returns-in-Productive
returns-in-Productive c = search (rules, made_row)

pub step-requires-in-Cost : goal.step-requires-in-Cost
step-requires-in-Cost c = search (rules, ready_cost)

pub returns-in-Cost : goal.returns-in-Cost
returns-in-Cost c = search (rules, made_cost)
