use Rattle.engine.proofs.Reading.{read_token, reads_token, read_rule, read_few, reads_rule}
use borrow.Author.Rules.{rules}
use Rattle.engine.proofs.inner.cost.read_cost.Goals as goal

pub token_cost-requires : goal.token_cost-requires
token_cost-requires c = search (rules, read_token)

pub returns-then-s-lt32768 : goal.returns-then-s-lt32768
returns-then-s-lt32768 c = search (rules, reads_token)

pub bounds-read-r : goal.bounds-read-r
bounds-read-r c = search (rules, read_few)

pub entry_at-requires : goal.entry_at-requires
entry_at-requires c = search (rules, read_rule)

pub returns : goal.returns
returns c = search (rules, reads_rule)
