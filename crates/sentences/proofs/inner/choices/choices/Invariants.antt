-- The rules below r have their first choices.
use Rattle.grammar.specs.Lent.{flat_of}
use Rattle.sentences.proofs.Choosing.{Choosing}
use Rattle.sentences.proofs.inner.choices.choices.Given as goal

abbrev pub invariant-loop-r : goal.invariant-loop-r
invariant-loop-r l = Choosing (flat_of l.g) l.cost l.r l.choice
