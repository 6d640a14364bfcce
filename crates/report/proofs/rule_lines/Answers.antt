use Rattle.report.proofs.Adding.{lining_start, lining_long, lining_room, lining_on, lining_end}
use borrow.Author.Rules.{rules}
use Rattle.report.proofs.rule_lines.Goals as goal

pub loop-r-init : goal.loop-r-init
loop-r-init c = search (rules, lining_start)

pub rule_line-next-requires : goal.rule_line-next-requires
rule_line-next-requires c = record { ready = c.requires.ready; rule = search rules; room = lining_room _ _ _ _ _ _ c.loop-r.invariant (search rules) c.requires.ready.well.sizes.rules_high c.requires.room }

pub loop-r-preserved : goal.loop-r-preserved
loop-r-preserved c = search (rules, lining_on)

pub shape_of-out : goal.shape_of-out
shape_of-out c = search (rules, lining_long)

pub returns : goal.returns
returns c = search (rules, lining_end)
