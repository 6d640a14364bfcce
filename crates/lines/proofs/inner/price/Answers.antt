use Rattle.lines.proofs.Fields.{amount_room, amount_made, word_room, dear_made, none_made}
use borrow.Author.Rules.{rules}
use Rattle.lines.proofs.inner.price.Goals as goal

pub number-requires : goal.number-requires
number-requires c = search (rules, amount_room)

pub returns-then-entry-le-COST_MAX : goal.returns-then-entry-le-COST_MAX
returns-then-entry-le-COST_MAX c = search (rules, amount_made)

pub copy-requires : goal.copy-requires
copy-requires c = search (rules, word_room)

pub returns-then-entry-le-COST_DEAR : goal.returns-then-entry-le-COST_DEAR
returns-then-entry-le-COST_DEAR c = search (rules, dear_made)

pub copy-requires-2 : goal.copy-requires-2
copy-requires-2 c = search (rules, word_room)

pub returns : goal.returns
returns c = search (rules, none_made)
