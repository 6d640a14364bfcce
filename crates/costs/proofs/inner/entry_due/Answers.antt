use Rattle.costs.proofs.Entry.{refusal_cost, refusal_dear, refusal_unknown}
use borrow.Author.Rules.{rules}
use Rattle.costs.proofs.inner.entry_due.Goals as goal

pub returns-then-entry-le-COST_MAX : goal.returns-then-entry-le-COST_MAX
returns-then-entry-le-COST_MAX c = search (rules, refusal_cost)

pub returns-then-entry-le-COST_DEAR : goal.returns-then-entry-le-COST_DEAR
returns-then-entry-le-COST_DEAR c = search (rules, refusal_dear)

pub returns : goal.returns
returns c = search (rules, refusal_unknown)
