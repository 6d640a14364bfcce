use Rattle.report.proofs.Adding.{line_stands, line_room_law, line_added}
use borrow.Author.Rules.{rules}
use Rattle.report.proofs.rule_line.Goals as goal

pub append-requires : goal.append-requires
append-requires c = record { stands = line_stands _ _ c.requires.ready _ c.requires.rule _ _ c.line-written.result c.line-written.ensures (search rules); room = line_room_law _ _ c.requires.ready _ c.requires.rule _ _ c.line-written.result c.line-written.ensures (search rules) _ _ c.requires.room }

pub returns : goal.returns
returns c = line_added _ _ c.requires.ready _ c.requires.rule _ _ c.line-written.result c.line-written.ensures (search rules) _ _ _ _ c.append.ensures
