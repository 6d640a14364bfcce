use Rattle.std.proofs.Common.{rules, arith}
use Rattle.lines.proofs.Decimal.{one_room, one_made, less_room, last_room, last_made}
use Rattle.lines.proofs.inner.+number.Goals as goal

pub put-requires : goal.put-requires
put-requires t c = search (rules, one_room)

pub returns-then-n-lt10 : goal.returns-then-n-lt10
returns-then-n-lt10 t c = search (rules, one_made)

pub number-next-requires : goal.number-next-requires
number-next-requires t c = (omega arith, less_room _ _ _ _ (omega arith) c.requires)

pub put-requires-2 : goal.put-requires-2
put-requires-2 t c = search (rules, last_room)

pub returns : goal.returns
returns t c = search (rules, last_made)
