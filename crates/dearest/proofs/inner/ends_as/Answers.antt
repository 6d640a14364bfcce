use Rattle.dearest.proofs.Numbers.{ends_cost, ends_unbounded, ends_above}
use borrow.Author.Rules.{rules}
use Rattle.dearest.proofs.inner.ends_as.Goals as goal

pub returns-then-x-le-DEAREST_MAX : goal.returns-then-x-le-DEAREST_MAX
returns-then-x-le-DEAREST_MAX c = search (rules, ends_cost)

pub returns-then-x-ge-NO_BOUND : goal.returns-then-x-ge-NO_BOUND
returns-then-x-ge-NO_BOUND c = search (rules, ends_unbounded)

pub returns : goal.returns
returns c = search (rules, ends_above)
