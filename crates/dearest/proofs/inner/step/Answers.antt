use Rattle.dearest.proofs.Stepping.{step_lists, step_sums, step_owner, step_stays, step_lifts}
use borrow.Author.Rules.{rules}
use Rattle.dearest.proofs.inner.step.Goals as goal

pub prod_at-q-requires : goal.prod_at-q-requires
prod_at-q-requires c = search (rules, step_lists)

pub sum-s-requires : goal.sum-s-requires
sum-s-requires c = search (rules, step_sums)

pub entry_at-requires : goal.entry_at-requires
entry_at-requires c = search (rules, step_owner)

pub returns-then-s-entry_at : goal.returns-then-s-entry_at
returns-then-s-entry_at c = search (rules, step_stays)

pub offset_bounds-dearest-owner : goal.offset_bounds-dearest-owner
offset_bounds-dearest-owner c = search (rules, step_owner)

pub bounds-dearest-owner : goal.bounds-dearest-owner
bounds-dearest-owner c = search (rules, step_owner)

pub returns : goal.returns
returns c = search (rules, step_lifts)
