use borrow.Author.Rules.{rules}
use Rattle.engine.proofs.Putting.{keep_yes, keep_not}
use Rattle.engine.proofs.inner.follow.keep.Goals as goal

pub returns-then-kept : goal.returns-then-kept
returns-then-kept c = search (rules, keep_yes)

pub returns : goal.returns
returns c = search (rules, keep_not)
