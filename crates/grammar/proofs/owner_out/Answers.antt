use Rattle.grammar.specs.Refusals.{owner_out}
use Rattle.grammar.proofs.Answer.{tests_none, tests_more, tests_all}
use borrow.Author.Rules.{rules}
use Rattle.grammar.proofs.owner_out.Goals as goal

pub loop-owner-init : goal.loop-owner-init
loop-owner-init c = search (rules, tests_none)

pub loop-owner-preserved : goal.loop-owner-preserved
loop-owner-preserved c = search (rules, tests_more)

pub returns : goal.returns
unfolding owner_out
returns c = search (rules, tests_all)
