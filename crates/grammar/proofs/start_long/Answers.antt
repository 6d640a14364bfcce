use Rattle.theory.proofs.Below.{some_none, some_more, some_yes, some_no}
use Rattle.theory.proofs.Bools.{told_so, told_not}
use Rattle.grammar.specs.Refusals.{start_long}
use Rattle.grammar.proofs.Answer.{long_yes, long_other, long_one}
use Rattle.grammar.proofs.Well.{laid_end}
use borrow.Author.Rules.{rules}
use Rattle.grammar.proofs.start_long.Goals as goal
use Rattle.grammar.proofs.start_long.Goals.{else-owner-eq0-via-then-owner-eq0+else-not-one_rule, else-owner-eq0-via-else-owner-eq0}

pub loop-p-init : goal.loop-p-init
loop-p-init c = search (rules, some_none)

pub one_rule-requires : goal.one_rule-requires
one_rule-requires c = search (rules, laid_end)

pub returns-then-not-one_rule : goal.returns-then-not-one_rule
unfolding start_long
returns-then-not-one_rule c = search (rules, some_yes, long_yes, told_not)

pub loop-p-preserved : goal.loop-p-preserved
loop-p-preserved c = elim c.else-owner-eq0.branch [
  | else-owner-eq0-via-then-owner-eq0+else-not-one_rule w ↦ search (rules, some_more, long_one, told_so)
  | else-owner-eq0-via-else-owner-eq0 w ↦ search (rules, some_more, long_other)
]

pub returns : goal.returns
unfolding start_long
returns c = search (rules, some_no)
