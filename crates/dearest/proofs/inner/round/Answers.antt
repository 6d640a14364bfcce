use Rattle.dearest.proofs.Rounding.{round_begin, round_ready, round_more, round_made}
use native.Mathlib.Omega.{arith}
use Rattle.dearest.proofs.inner.round.Goals as goal

pub loop-i-init : goal.loop-i-init
loop-i-init c = round_begin _ _ c.requires c.args.beyond c.args.down

pub step-changed-requires : goal.step-changed-requires
step-changed-requires c = round_ready _ _ c.requires c.args.beyond _ _ _ _ c.loop-i.invariant _ c.loop-i-test.true c.turn_at-p.ensures

pub loop-i-preserved : goal.loop-i-preserved
loop-i-preserved c = round_more _ _ c.requires c.args.beyond _ _ _ _ c.loop-i.invariant _ _ _ c.loop-i-test.true c.turn_at-p.ensures c.step-changed.ensures

pub shape_of-dearest : goal.shape_of-dearest
shape_of-dearest c = c.loop-i.invariant.keeps

pub returns : goal.returns
returns c = round_made _ _ c.requires c.args.beyond _ _ _ _ c.loop-i.invariant (omega arith) c.loop-i-test.false
