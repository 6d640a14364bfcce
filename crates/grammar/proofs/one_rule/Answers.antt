use Rattle.grammar.proofs.Answer.{one_not, one_is}
use borrow.Author.Rules.{rules}
use Rattle.grammar.proofs.one_rule.Goals as goal

pub returns-then-e-a : goal.returns-then-e-a
returns-then-e-a c = search (rules, one_not)

pub returns : goal.returns
returns c = search (rules, one_is)
