use Rattle.lines.proofs.Fields.{sets_front, sets_back, sets_made}
use borrow.Author.Rules.{rules}
use Rattle.lines.proofs.inner.sets.Goals as goal

pub row-next-requires : goal.row-next-requires
row-next-requires c = search (rules, sets_front)

pub row-requires : goal.row-requires
row-requires c = search (rules, sets_back)

pub returns : goal.returns
returns c = search (rules, sets_made)
