use Rattle.engine.proofs.Summing.{token_in, token_costs, rule_in, rule_costs}
use borrow.Author.Rules.{rules}
use Rattle.costs.proofs.inner.symbol_cost.Goals as goal

pub token_cost-requires : goal.token_cost-requires
token_cost-requires c = search (rules, token_in)

pub returns-then-s-lt32768 : goal.returns-then-s-lt32768
returns-then-s-lt32768 c = search (rules, token_costs)

pub entry_at-requires : goal.entry_at-requires
entry_at-requires c = search (rules, rule_in)

pub returns : goal.returns
returns c = search (rules, rule_costs)
