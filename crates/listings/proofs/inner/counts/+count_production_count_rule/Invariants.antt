use lib.ListN.{length}
use Rattle.grammar.specs.Lent.{flat_of}
use Rattle.listings.proofs.Counting.{Producing, Ruling}
use Prim.Native.Nat.{◌+◌, ◌*◌, ◌-◌}
use Rattle.listings.proofs.inner.counts.+count_production_count_rule.Given as goal

abbrev pub decreases-count_production : goal.decreases-count_production
decreases-count_production l = l.levels * 2 + 1

abbrev pub invariant-count_production-loop-s : goal.invariant-count_production-loop-s
invariant-count_production-loop-s l =
    Producing (flat_of l.g) l.cost l.levels l.a l.e l.initial.counts l.s-index l.n l.counts l.shallow

abbrev pub decreases-count_rule : goal.decreases-count_rule
decreases-count_rule l = l.levels * 2

abbrev pub invariant-count_rule-loop-p : goal.invariant-count_rule-loop-p
invariant-count_rule-loop-p l =
    Ruling (flat_of l.g) l.cost l.r l.initial.counts l.p l.total l.counts l.shallow

abbrev pub decreases-count_rule-loop-p : goal.decreases-count_rule-loop-p
decreases-count_rule-loop-p l =
    length l.g.owners.now - l.p
