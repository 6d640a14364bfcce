use Rattle.jobs.proofs.Working.{moved_end, moved_on}
use borrow.Author.Rules.{rules}
use Rattle.jobs.proofs.inner.moved.Goals as goal

pub returns-then-from-prods : goal.returns-then-from-prods
returns-then-from-prods c = search (rules, moved_end)

pub returns : goal.returns
returns c = search (rules, moved_on)
