-- The rule's productions from p up to q do not cost what the rule does.
use lib.ListN.{length}
use Prim.Native.Nat.{◌-◌}
use Rattle.grammar.specs.Lent.{flat_of}
use Rattle.sentences.proofs.Choosing.{Rising}
use Rattle.sentences.proofs.inner.choices.cheapest_from.Given as goal

abbrev pub invariant-loop-q : goal.invariant-loop-q
invariant-loop-q l = Rising (flat_of l.g) l.cost l.r l.p l.q

abbrev pub decreases-loop-q : goal.decreases-loop-q
decreases-loop-q l = length l.g.owners.now - l.q
