use Rattle.engine.proofs.Turning.{plain_none, plain_in, plain_some}
use borrow.Author.Rules.{rules}
use Rattle.engine.proofs.inner.first.is_plain.Goals as goal

pub returns-then-e-a : goal.returns-then-e-a
returns-then-e-a c = search (rules, plain_none)

pub bounds-g-a : goal.bounds-g-a
bounds-g-a c = search (rules, plain_in)

pub returns : goal.returns
returns c = search (rules, plain_some)
