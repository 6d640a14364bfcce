use native.Mathlib.Omega.{arith}
use Rattle.dearest.proofs.Rounding.{settle_start, settle_begun, settle_upto, settle_on, settle_less, settle_end, settle_length}
use Rattle.dearest.proofs.inner.settle.Goals as goal

pub loop-changed-init : goal.loop-changed-init
loop-changed-init c = settle_start _ _ c.requires

pub round-changed-requires : goal.round-changed-requires
round-changed-requires c = settle_begun _ _ _ _ c.loop-changed.invariant

pub overflow_add-i : goal.overflow_add-i
overflow_add-i c = omega (arith, settle_upto _ _ _ _ c.loop-changed.invariant)

pub loop-changed-smaller : goal.loop-changed-smaller
loop-changed-smaller c = settle_less _ _ _ _ c.loop-changed.invariant c.loop-changed-test.true _ c.from-n.ensures _ _ _ c.round-changed.ensures _ c.min-i.ensures

pub loop-changed-preserved : goal.loop-changed-preserved
loop-changed-preserved c = settle_on _ _ _ _ c.loop-changed.invariant c.loop-changed-test.true _ c.from-n.ensures _ _ _ c.round-changed.ensures _ c.min-i.ensures

pub shape_of-dearest : goal.shape_of-dearest
shape_of-dearest c = settle_length _ _ c.requires _ _ _ c.loop-changed.invariant

pub returns : goal.returns
returns c = settle_end _ _ _ _ c.loop-changed.invariant c.loop-changed-test.false
