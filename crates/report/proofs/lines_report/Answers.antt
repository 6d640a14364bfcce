use Rattle.report.proofs.Adding.{lines_room, report_within, report_is}
use borrow.Author.Rules.{rules}
use Rattle.report.proofs.lines_report.Goals as goal

pub rule_lines-requires : goal.rule_lines-requires
rule_lines-requires c = search (rules, lines_room)

pub returns : goal.returns
returns c = search (rules, report_within, report_is)
