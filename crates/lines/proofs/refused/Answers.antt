use native.Mathlib.Omega.{arith}
use Rattle.lines.proofs.Calling.{out_7, out_room, refused_number, refused_feed, refused_count, refused_does}
use borrow.Author.Rules.{rules}
use Rattle.lines.proofs.refused.Goals as goal

pub returns-then-out_wrong : goal.returns-then-out_wrong
returns-then-out_wrong c = search (rules, out_7)

pub copy-a-requires : goal.copy-a-requires
copy-a-requires c = search (rules, out_room)

pub number-b-requires : goal.number-b-requires
number-b-requires c = refused_number _ _ c.out_wrong.ensures c.if-out_wrong.false _ (rw c.from.ensures c.ranges.number.fits) _ _ _ c.copy-a.ensures (omega arith)

pub copy-end-requires : goal.copy-end-requires
copy-end-requires c = refused_feed _ _ c.out_wrong.ensures c.if-out_wrong.false _ (rw c.from.ensures c.ranges.number.fits) _ _ _ c.copy-a.ensures (omega arith) _ _ c.number-b.ensures _ (omega arith)

pub count-requires : goal.count-requires
count-requires c = refused_count _ _ c.out_wrong.ensures c.if-out_wrong.false _ (rw c.from.ensures c.ranges.number.fits) _ _ _ c.copy-a.ensures (omega arith) _ _ c.number-b.ensures _ (omega arith) _ _ c.copy-end.ensures

pub returns : goal.returns
returns c = search (rules, refused_does)
