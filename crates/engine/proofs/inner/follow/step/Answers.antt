use mathlib.Core.Path.{refl}
use borrow.Author.Tests.{not-true, not-false}
use Rattle.engine.proofs.FollowStepping.{row_long, step_walk, step_place, step_reached, step_not, step_done, step_tail, step_tailed}
use mathlib.Core.Path.{ap}
use mathlib.Core.Bool.{not}
use Rattle.engine.proofs.inner.follow.step.Goals as goal

pub is_set-requires : goal.is_set-requires
is_set-requires c = step_place _ _ _ _ c.requires.ready _ _ _ _ refl c.prod_at-q.ensures _ c.row_width.ensures

pub returns-then-not-is_set : goal.returns-then-not-is_set
returns-then-not-is_set c = step_not _ _ _ _ c.requires.ready _ _ _ _ refl c.prod_at-q.ensures _ (step_reached _ _ _ _ c.requires.ready _ _ _ _ refl c.prod_at-q.ensures _ c.row_width.ensures _ c.is_set.ensures) (not-true _ (ap not c.if-not-is_set.true))

pub tail-requires : goal.tail-requires
tail-requires c = step_tail _ _ _ _ _ _ _ _ _ _ c.requires.ready _ _ _ _ refl c.prod_at-q.ensures

pub returns-then-fed : goal.returns-then-fed
returns-then-fed c = step_tailed _ _ _ _ _ _ _ c.requires _ _ _ _ refl c.prod_at-q.ensures _ (step_reached _ _ _ _ c.requires.ready _ _ _ _ refl c.prod_at-q.ensures _ c.row_width.ensures _ c.is_set.ensures) (not-false _ (ap not c.if-not-is_set.false)) _ _ c.if-fed.true c.tail.ensures

pub slice_bounds-walk-end : goal.slice_bounds-walk-end
slice_bounds-walk-end c = row_long _ _ _ _ _ _ _ _ c.requires.ready _ c.table_width-width.ensures

pub walk-requires : goal.walk-requires
walk-requires c = step_walk _ _ _ _ _ _ _ _ c.requires.ready _ c.table_width-width.ensures _ _ _ _ refl c.prod_at-q.ensures

pub returns : goal.returns
returns c = step_done _ _ _ _ c.requires.ready _ _ _ _ refl c.prod_at-q.ensures _ (step_reached _ _ _ _ c.requires.ready _ _ _ _ refl c.prod_at-q.ensures _ c.row_width.ensures _ c.is_set.ensures) (not-false _ (ap not c.if-not-is_set.false)) _ _ c.walk.ensures
