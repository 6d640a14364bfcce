use Rattle.lines.proofs.Writing.{write_first, write_follow, write_front, write_sets, write_back, write_made}
use borrow.Author.Rules.{rules}
use Rattle.lines.proofs.inner.write.Goals as goal

pub front-a-requires : goal.front-a-requires
front-a-requires c = search (rules, write_front)

pub sets-b-requires : goal.sets-b-requires
sets-b-requires c = search (rules, write_first, write_follow, write_sets)

pub back-requires : goal.back-requires
back-requires c = write_back _ _ _ _ _ _ _ _ c.requires _ _ _ c.front-a.ensures _ _ _ _ c.sets-b.ensures _

pub returns : goal.returns
returns c = search (rules, write_made)
