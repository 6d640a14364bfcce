use Rattle.sentences.proofs.Measuring.{length_begin, length_ready, length_on, length_end}
use native.Mathlib.Omega.{arith}
use Rattle.sentences.proofs.inner.lengths.length_round.Goals as goal

pub loop-i-init : goal.loop-i-init
loop-i-init c = length_begin _ _ _ c.requires c.args.down

pub length_step-changed-requires : goal.length_step-changed-requires
length_step-changed-requires c = length_ready _ _ _ c.requires _ _ c.from-n.ensures _ _ _ c.loop-i.invariant _ c.loop-i-test.true c.turn_at-r.ensures

pub loop-i-preserved : goal.loop-i-preserved
loop-i-preserved c = length_on _ _ _ c.requires _ _ c.from-n.ensures _ _ _ c.loop-i.invariant _ _ _ c.loop-i-test.true c.turn_at-r.ensures c.length_step-changed.ensures

pub returns : goal.returns
returns c = length_end _ _ _ c.requires _ _ c.from-n.ensures _ _ _ c.loop-i.invariant (omega arith) c.loop-i-test.false
