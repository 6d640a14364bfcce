use Rattle.report.proofs.Adding.{text_stands, refused_room, refused_within, refused_is}
use borrow.Author.Rules.{rules}
use Rattle.report.proofs.refusal.Goals as goal

pub append-requires : goal.append-requires
append-requires c = search (rules, text_stands, refused_room)

pub returns : goal.returns
returns c = search (rules, refused_within, refused_is)
