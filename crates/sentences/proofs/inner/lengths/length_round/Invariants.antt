use Rattle.grammar.specs.Lent.{flat_of}
use Rattle.sentences.proofs.Measuring.{LengthTurned}
use Rattle.sentences.proofs.inner.lengths.length_round.Given as goal

abbrev pub invariant-loop-i : goal.invariant-loop-i
invariant-loop-i l = LengthTurned (flat_of l.g) l.choice l.down l.i l.initial.lengths l.changed l.lengths
