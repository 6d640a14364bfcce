use Rattle.lines.proofs.Sets.{set_start, set_in, set_room, set_on, set_end}
use borrow.Author.Rules.{rules}
use Rattle.lines.proofs.inner.set.Goals as goal

pub loop-t-init : goal.loop-t-init
loop-t-init c = search (rules, set_start)

pub is_set-on-requires : goal.is_set-on-requires
is_set-on-requires c = search (rules, set_in)

pub member-next-requires : goal.member-next-requires
member-next-requires c = search (rules, set_room)

pub loop-t-preserved : goal.loop-t-preserved
loop-t-preserved c = search (rules, set_on)

pub returns : goal.returns
returns c = search (rules, set_end)
