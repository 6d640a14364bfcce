use Rattle.report.proofs.Adding.{append_none, append_part, append_room, append_made}
use borrow.Author.Rules.{rules}
use Rattle.report.proofs.append.Goals as goal

pub returns-in_default : goal.returns-in_default
returns-in_default c = search (rules, append_none)

pub slice_bounds-copy-end : goal.slice_bounds-copy-end
slice_bounds-copy-end c = search (rules, append_part)

pub copy-requires : goal.copy-requires
copy-requires c = search (rules, append_room)

pub returns : goal.returns
returns c = search (rules, append_made)
