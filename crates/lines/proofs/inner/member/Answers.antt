use Rattle.lines.proofs.Sets.{member_none, first_room, first_made, space_room, later_room, later_made}
use borrow.Author.Rules.{rules}
use Rattle.lines.proofs.inner.member.Goals as goal

pub returns-then-not-on : goal.returns-then-not-on
returns-then-not-on c = search (rules, member_none)

pub number-requires : goal.number-requires
number-requires c = search (rules, first_room)

pub returns-then-not-some : goal.returns-then-not-some
returns-then-not-some c = search (rules, first_made)

pub put-next-requires : goal.put-next-requires
put-next-requires c = search (rules, space_room)

pub number-requires-2 : goal.number-requires-2
number-requires-2 c = search (rules, later_room)

pub returns : goal.returns
returns c = search (rules, later_made)
