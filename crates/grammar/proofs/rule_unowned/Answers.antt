use Rattle.theory.proofs.Below.{some_none, some_more, some_yes, some_no}
use Rattle.grammar.specs.Refusals.{rule_unowned}
use Rattle.grammar.proofs.Answer.{unowned_at}
use Rattle.grammar.proofs.Well.{owner_in_more}
use borrow.Author.Rules.{rules}
use Rattle.grammar.proofs.rule_unowned.Goals as goal

pub owned_rules-owned-requires : goal.owned_rules-owned-requires
owned_rules-owned-requires c = search (rules, owner_in_more)

pub loop-r-init : goal.loop-r-init
loop-r-init c = search (rules, some_none)

pub returns-then-not-owned-r : goal.returns-then-not-owned-r
unfolding rule_unowned
returns-then-not-owned-r c = search (rules, some_yes, unowned_at)

pub loop-r-preserved : goal.loop-r-preserved
loop-r-preserved c = search (rules, some_more, unowned_at)

pub returns : goal.returns
unfolding rule_unowned
returns c = search (rules, some_no)
