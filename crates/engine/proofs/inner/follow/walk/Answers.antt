use native.Mathlib.Omega.{arith}
use Rattle.engine.proofs.FollowWalking.{walk_start, walk_end, walk_in, walk_turn, walk_on}
use Rattle.engine.proofs.inner.follow.walk.Goals as goal

pub loop-i-init : goal.loop-i-init
loop-i-init c = walk_start _ _ _ _ _ _ _ _ _ c.requires _

pub bounds-g-q : goal.bounds-g-q
bounds-g-q c = walk_in _ _ _ _ _ _ _ _ _ c.requires _ _ _ _ _ _ c.loop-i.invariant c.turn_at.result (omega (arith, c.turn_at.ensures, c.loop-i-test.true))

pub one-x-requires : goal.one-x-requires
one-x-requires c = walk_turn _ _ _ _ _ _ _ _ _ c.requires _ _ _ _ _ _ c.loop-i.invariant c.turn_at.result (omega (arith, c.turn_at.ensures, c.loop-i-test.true))

pub loop-i-preserved : goal.loop-i-preserved
loop-i-preserved c = walk_on _ _ _ _ _ _ _ _ _ c.requires _ _ _ _ _ _ c.loop-i.invariant _ c.turn_at.ensures c.loop-i-test.true _ _ _ _ c.one-x.ensures

pub returns : goal.returns
returns c = walk_end _ _ _ _ _ _ _ _ _ c.requires _ _ _ _ _ _ c.loop-i.invariant c.loop-i-test.false
