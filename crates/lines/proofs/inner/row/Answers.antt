use Rattle.lines.proofs.Fields.{row_front, row_back, row_made}
use borrow.Author.Rules.{rules}
use Rattle.lines.proofs.inner.row.Goals as goal

pub set-next-requires : goal.set-next-requires
set-next-requires c = search (rules, row_front)

pub copy-requires : goal.copy-requires
copy-requires c = search (rules, row_back)

pub returns : goal.returns
returns c = search (rules, row_made)
