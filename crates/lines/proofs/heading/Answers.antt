use Rattle.lines.proofs.Calling.{out_7, out_room, out_does}
use borrow.Author.Rules.{rules}
use Rattle.lines.proofs.heading.Goals as goal

pub returns-then-out_wrong : goal.returns-then-out_wrong
returns-then-out_wrong c = search (rules, out_7)

pub copy-end-requires : goal.copy-end-requires
copy-end-requires c = search (rules, out_room)

pub returns : goal.returns
returns c = search (rules, out_does)
