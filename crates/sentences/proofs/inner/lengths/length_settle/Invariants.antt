use Rattle.grammar.specs.Lent.{flat_of}
use Rattle.sentences.proofs.Measuring.{length_left, LengthSettle}
use Rattle.sentences.proofs.inner.lengths.length_settle.Given as goal

abbrev pub invariant-loop-changed : goal.invariant-loop-changed
invariant-loop-changed l = LengthSettle (flat_of l.g) l.choice l.initial.lengths l.changed l.lengths

abbrev pub decreases-loop-changed : goal.decreases-loop-changed
decreases-loop-changed l = length_left l.g.rules l.lengths l.changed
