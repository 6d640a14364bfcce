use Rattle.engine.proofs.Marking.{token_marked, rule_place, rule_marked}
use borrow.Author.Rules.{rules}
use Rattle.engine.proofs.inner.productive.symbol_marked.Goals as goal

pub returns-then-s-lt32768 : goal.returns-then-s-lt32768
returns-then-s-lt32768 c = search (rules, token_marked)

pub is_set-requires : goal.is_set-requires
is_set-requires c = search (rules, rule_place)

pub returns : goal.returns
returns c = search (rules, rule_marked)
