use Rattle.sentences.proofs.Measuring.{length_starts, length_begun, length_less, length_again, length_done}
use Rattle.sentences.proofs.inner.lengths.length_settle.Goals as goal

pub loop-changed-init : goal.loop-changed-init
loop-changed-init c = length_starts _ _ _ c.requires

pub length_round-changed-requires : goal.length_round-changed-requires
length_round-changed-requires c = length_begun _ _ _ c.requires _ _ c.loop-changed.invariant

pub loop-changed-smaller : goal.loop-changed-smaller
loop-changed-smaller c = length_less _ _ _ c.requires _ _ c.loop-changed.invariant _ _ _ c.length_round-changed.ensures c.loop-changed-test.true

pub loop-changed-preserved : goal.loop-changed-preserved
loop-changed-preserved c = length_again _ _ _ c.requires _ _ c.loop-changed.invariant _ _ _ c.length_round-changed.ensures

pub shape_of-lengths : goal.shape_of-lengths
shape_of-lengths c = c.loop-changed.invariant.keeps

pub returns : goal.returns
returns c = length_done _ _ _ c.requires _ _ c.loop-changed.invariant c.loop-changed-test.false
