use Rattle.grammar.proofs.Answer.{starts_long, starts_first, starts_last, starts_rest}
use borrow.Author.Rules.{rules}
use Rattle.grammar.proofs.starts_wrong.Goals as goal

pub returns-then-starts-prods : goal.returns-then-starts-prods
returns-then-starts-prods c = search (rules, starts_long)

pub returns-then-starts-ne0 : goal.returns-then-starts-ne0
returns-then-starts-ne0 c = search (rules, starts_first)

pub returns-then-start_at-symbols : goal.returns-then-start_at-symbols
returns-then-start_at-symbols c = search (rules, starts_last)

pub returns : goal.returns
returns c = search (rules, starts_rest)
