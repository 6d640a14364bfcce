use mathlib.Core.Path.{refl}
use Rattle.engine.proofs.FirstWalking.{own_start, walk_end, token_place, walk_token, own_place, empty_place, walk_on, walk_stop, joined_own}
use mathlib.Core.Path.{ap}
use mathlib.Core.Bool.{not}
use Rattle.engine.proofs.inner.first.walk.Goals as goal

pub loop-s-init : goal.loop-s-init
loop-s-init c = (c.table_width-width.ensures, (c.row_width-row.ensures, own_start _ _ _ _ _ _ _ c.requires))

pub set-got-requires : goal.set-got-requires
set-got-requires c = token_place _ _ _ _ _ _ _ c.requires _ _ _ _ c.loop-s.invariant.1.1 _ refl c.loop-s-test.true c.if-s-lt32768.true _ _ c.loop-s.invariant.0 c.from.ensures

pub returns-then-s-lt32768 : goal.returns-then-s-lt32768
returns-then-s-lt32768 c = walk_token _ _ _ _ _ _ _ c.requires _ _ _ _ c.loop-s.invariant.1.1 _ refl c.loop-s-test.true c.if-s-lt32768.true _ _ _ _ c.loop-s.invariant.0 c.from.ensures c.set-got.ensures.new c.set-got.ensures.left

pub join-got-requires : goal.join-got-requires
join-got-requires c = own_place _ _ _ _ _ _ _ c.requires _ _ _ c.loop-s.invariant.1.1 _ refl c.loop-s-test.true c.if-s-lt32768.false _ _ c.loop-s.invariant.0 c.from-r.ensures

pub is_set-requires : goal.is_set-requires
is_set-requires c = empty_place _ _ _ _ _ _ _ c.requires _ _ _ _ c.loop-s.invariant.1.1 _ refl c.loop-s-test.true c.if-s-lt32768.false _ _ c.loop-s.invariant.1.0 c.from-r.ensures

pub returns-then-not-is_set : goal.returns-then-not-is_set
returns-then-not-is_set c = walk_stop _ _ _ _ _ _ _ c.requires _ _ _ _ c.loop-s.invariant.1.1 _ refl c.loop-s-test.true c.if-s-lt32768.false _ _ _ _ _ _ c.loop-s.invariant.0 c.loop-s.invariant.1.0 c.from-r.ensures (joined_own _ _ _ _ _ _ _ c.requires _ _ _ c.loop-s.invariant.1.1 _ _ _ _ c.loop-s.invariant.0 c.join-got.ensures) c.is_set.ensures (ap not c.if-not-is_set.true)

pub loop-s-preserved : goal.loop-s-preserved
loop-s-preserved c = (c.loop-s.invariant.0, (c.loop-s.invariant.1.0, walk_on _ _ _ _ _ _ _ c.requires _ _ _ _ c.loop-s.invariant.1.1 _ refl c.loop-s-test.true c.if-s-lt32768.false _ _ _ _ _ _ c.loop-s.invariant.0 c.loop-s.invariant.1.0 c.from-r.ensures (joined_own _ _ _ _ _ _ _ c.requires _ _ _ c.loop-s.invariant.1.1 _ _ _ _ c.loop-s.invariant.0 c.join-got.ensures) c.is_set.ensures (ap not c.if-not-is_set.false)))

pub returns : goal.returns
returns c = walk_end _ _ _ _ _ _ _ c.requires _ _ _ _ c.loop-s.invariant.1.1 c.loop-s-test.false
