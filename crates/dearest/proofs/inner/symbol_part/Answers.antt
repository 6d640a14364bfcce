use Rattle.engine.proofs.Summing.{token_in, rule_in}
use Rattle.dearest.proofs.Summing.{part_token, part_rule}
use borrow.Author.Rules.{rules}
use Rattle.dearest.proofs.inner.symbol_part.Goals as goal

pub token_cost-requires : goal.token_cost-requires
token_cost-requires c = search (rules, token_in)

pub returns-then-s-lt32768 : goal.returns-then-s-lt32768
returns-then-s-lt32768 c = search (rules, part_token)

pub entry_at-requires : goal.entry_at-requires
entry_at-requires c = search (rules, rule_in)

pub returns : goal.returns
returns c = search (rules, part_rule)
