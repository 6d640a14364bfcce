use Rattle.grammar.specs.Lent.{flat_of}
use Rattle.listings.proofs.Writing.{Writing}
use Prim.Native.Nat.{◌+◌, ◌*◌}
use Rattle.listings.proofs.inner.numbers.+write_production_write_rule.Given as goal

abbrev pub decreases-write_production : goal.decreases-write_production
decreases-write_production l = l.levels * 2 + 1

abbrev pub invariant-write_production-loop-s : goal.invariant-write_production-loop-s
invariant-write_production-loop-s l =
    Writing (flat_of l.g) l.cost l.choice l.counts l.levels l.a l.e l.todo l.at l.initial.out l.s-index l.j l.to l.begun l.out

abbrev pub decreases-write_rule : goal.decreases-write_rule
decreases-write_rule l = l.levels * 2
