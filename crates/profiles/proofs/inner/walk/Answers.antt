use mathlib.Core.Path.{refl}
use Rattle.engine.proofs.FirstWalking.{walk_end, token_place, walk_token, first_place, empty_place, walk_on, walk_stop, joined_from}
use Rattle.profiles.proofs.Walking.{going_start}
use mathlib.Core.Path.{ap}
use mathlib.Core.Bool.{not}
use Rattle.profiles.proofs.inner.walk.Goals as goal

pub loop-s-init : goal.loop-s-init
loop-s-init c = let p = c.requires in (c.words_for-width.ensures, (c.words_for-line.ensures, going_start _ _ _ _ _ _ _ p))

pub set-requires : goal.set-requires
set-requires c = token_place _ _ _ _ _ _ _ c.requires.forth _ _ _ _ c.loop-s.invariant.1.1.at _ refl c.loop-s-test.true c.if-s-lt32768.true _ _ c.loop-s.invariant.0 c.from.ensures

pub returns-then-s-lt32768 : goal.returns-then-s-lt32768
returns-then-s-lt32768 c = record { new = _; walks = walk_token _ _ _ _ _ _ _ c.requires.forth _ _ _ _ c.loop-s.invariant.1.1.at _ refl c.loop-s-test.true c.if-s-lt32768.true _ _ _ _ c.loop-s.invariant.0 c.from.ensures c.set.ensures.new c.set.ensures.left }

pub join_from-requires : goal.join_from-requires
join_from-requires c = first_place _ _ _ _ _ _ _ c.requires.forth _ _ _ _ c.loop-s.invariant.1.1.at _ refl c.loop-s-test.true c.if-s-lt32768.false _ _ c.loop-s.invariant.0 c.from-r.ensures

pub is_set-requires : goal.is_set-requires
is_set-requires c = empty_place _ _ _ _ _ _ _ c.requires.forth _ _ _ _ c.loop-s.invariant.1.1.at _ refl c.loop-s-test.true c.if-s-lt32768.false _ _ c.loop-s.invariant.1.0 c.from-r.ensures

pub returns-then-not-is_set : goal.returns-then-not-is_set
returns-then-not-is_set c = let p = c.requires.forth in record { new = _; walks = walk_stop _ _ _ _ _ _ _ p _ _ _ _ c.loop-s.invariant.1.1.at _ refl c.loop-s-test.true c.if-s-lt32768.false _ _ _ _ _ _ c.loop-s.invariant.0 c.loop-s.invariant.1.0 c.from-r.ensures (joined_from _ _ _ _ _ _ _ p _ _ _ _ c.loop-s.invariant.1.1.at _ _ _ _ c.loop-s.invariant.0 c.join_from.ensures) c.is_set.ensures (ap not c.if-not-is_set.true) }

pub loop-s-preserved : goal.loop-s-preserved
loop-s-preserved c = let p = c.requires.forth in (c.loop-s.invariant.0, (c.loop-s.invariant.1.0, record { new = _; at = walk_on _ _ _ _ _ _ _ p _ _ _ _ c.loop-s.invariant.1.1.at _ refl c.loop-s-test.true c.if-s-lt32768.false _ _ _ _ _ _ c.loop-s.invariant.0 c.loop-s.invariant.1.0 c.from-r.ensures (joined_from _ _ _ _ _ _ _ p _ _ _ _ c.loop-s.invariant.1.1.at _ _ _ _ c.loop-s.invariant.0 c.join_from.ensures) c.is_set.ensures (ap not c.if-not-is_set.false) }))

pub returns : goal.returns
returns c = record { new = _; walks = walk_end _ _ _ _ _ _ _ c.requires.forth _ _ _ _ c.loop-s.invariant.1.1.at c.loop-s-test.false }
