use Rattle.report.proofs.Adding.{text_stands, text_made, heading_room}
use borrow.Author.Rules.{rules}
use Rattle.report.proofs.heading.Goals as goal

pub append-requires : goal.append-requires
append-requires c = search (rules, text_stands, heading_room)

pub returns : goal.returns
returns c = search (rules, text_made)
