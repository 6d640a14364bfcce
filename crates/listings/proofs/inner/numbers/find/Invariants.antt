use Prim.Native.Nat.{◌-◌}
use lib.ListN.{length}
use Rattle.grammar.specs.Lent.{flat_of}
use Rattle.listings.proofs.Finding.{Finding}
use Rattle.listings.proofs.inner.numbers.find.Given as goal

abbrev pub invariant-loop-rest : goal.invariant-loop-rest
invariant-loop-rest l =
    Finding (flat_of l.g) l.cost l.levels l.r l.k l.p l.left l.todo

abbrev pub decreases-loop-rest : goal.decreases-loop-rest
decreases-loop-rest l =
    length l.g.owners.now - l.p
