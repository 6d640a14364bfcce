use Rattle.sentences.proofs.Measuring.{length_none, length_start, length_next, length_countable, length_stays, length_writes}
use borrow.Author.Rules.{rules}
use Rattle.sentences.proofs.inner.lengths.length_step.Goals as goal

pub returns-then-p-ge4096 : goal.returns-then-p-ge4096
returns-then-p-ge4096 c = search (rules, length_none)

pub start_at-requires : goal.start_at-requires
start_at-requires c = search (rules, length_start)

pub start_at-requires-2 : goal.start_at-requires-2
start_at-requires-2 c = search (rules, length_next)

pub count-n-requires : goal.count-n-requires
count-n-requires c = search (rules, length_countable)

pub returns-then-n-old : goal.returns-then-n-old
returns-then-n-old c = search (rules, length_writes)

pub returns : goal.returns
returns c = search (rules, length_stays)
