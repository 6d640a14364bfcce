use Rattle.grammar.proofs.Answer.{start_long_is, start_rest}
use Rattle.theory.proofs.Bools.{told}
use borrow.Author.Rules.{rules}
use Rattle.grammar.proofs.start_wrong.Goals as goal

pub returns-then-start_long : goal.returns-then-start_long
returns-then-start_long c = search (rules, start_long_is, told)

pub returns : goal.returns
returns c = search (rules, start_rest, told)
