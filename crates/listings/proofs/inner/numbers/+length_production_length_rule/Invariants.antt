use Rattle.grammar.specs.Lent.{flat_of}
use Rattle.listings.proofs.Measuring.{Measuring}
use Prim.Native.Nat.{◌+◌, ◌*◌}
use Rattle.listings.proofs.inner.numbers.+length_production_length_rule.Given as goal

abbrev pub decreases-length_production : goal.decreases-length_production
decreases-length_production l = l.levels * 2 + 1

abbrev pub invariant-length_production-loop-s : goal.invariant-length_production-loop-s
invariant-length_production-loop-s l =
    Measuring (flat_of l.g) l.cost l.counts l.levels l.a l.e l.todo l.s-index l.j l.n

abbrev pub decreases-length_rule : goal.decreases-length_rule
decreases-length_rule l = l.levels * 2
