use Rattle.engine.proofs.Lowering.{lower_sums, lower_owner, lower_few, lowers_least, lowers_none, lowers_new}
use borrow.Author.Rules.{rules}
use Rattle.engine.proofs.inner.cost.step.Goals as goal

pub entry_at-requires : goal.entry_at-requires
entry_at-requires c = search (rules, lower_owner)

pub returns-then-top-eq0 : goal.returns-then-top-eq0
returns-then-top-eq0 c = search (rules, lowers_least)

pub sum_to-s-requires : goal.sum_to-s-requires
sum_to-s-requires c = search (rules, lower_sums)

pub offset_bounds-cost-owner : goal.offset_bounds-cost-owner
offset_bounds-cost-owner c = search (rules, lower_owner)

pub bounds-cost-owner : goal.bounds-cost-owner
bounds-cost-owner c = search (rules, lower_owner)

pub bounds-read-owner : goal.bounds-read-owner
bounds-read-owner c = search (rules, lower_few)

pub returns-then-s-top : goal.returns-then-s-top
returns-then-s-top c = search (rules, lowers_new)

pub returns : goal.returns
returns c = search (rules, lowers_none)
