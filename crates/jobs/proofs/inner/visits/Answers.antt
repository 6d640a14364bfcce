use Rattle.jobs.proofs.Working.{working_start, working_ready, working_on, working_stop, working_end}
use native.Mathlib.Omega.{arith}
use Rattle.jobs.proofs.inner.visits.Goals as goal

pub loop-made-init : goal.loop-made-init
loop-made-init c = working_start _ _ _ _ c.requires

pub returns-then-at : goal.returns-then-at
returns-then-at c = working_stop _ _ _ _ _ _ _ c.loop-made.invariant _ (omega arith) c.if-at.true

pub step-got-requires : goal.step-got-requires
step-got-requires c = working_ready _ _ _ _ _ _ _ c.loop-made.invariant _ c.from.ensures

pub moved-at-requires : goal.moved-at-requires
moved-at-requires c = let i = c.loop-made.invariant.begun in (i.below, i.well.sizes.prods_high)

pub loop-made-preserved : goal.loop-made-preserved
loop-made-preserved c = working_on _ _ _ _ _ _ _ c.loop-made.invariant c.if-at.false _ c.from.ensures _ _ c.step-got.ensures _ c.moved-at.ensures

pub shape_of-first : goal.shape_of-first
shape_of-first c = c.loop-made.invariant.long.first

pub shape_of-empty : goal.shape_of-empty
shape_of-empty c = c.loop-made.invariant.long.empty

pub shape_of-follow : goal.shape_of-follow
shape_of-follow c = c.loop-made.invariant.long.follow

pub shape_of-productive : goal.shape_of-productive
shape_of-productive c = c.loop-made.invariant.long.productive

pub shape_of-cost : goal.shape_of-cost
shape_of-cost c = c.loop-made.invariant.long.cost

pub returns : goal.returns
returns c = working_end _ _ _ _ _ _ _ c.loop-made.invariant _ (omega arith)
