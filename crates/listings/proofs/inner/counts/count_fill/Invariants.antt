use Rattle.grammar.specs.Lent.{flat_of}
use Rattle.listings.proofs.Counting.{Filling}
use Rattle.listings.proofs.inner.counts.count_fill.Given as goal

abbrev pub invariant-loop-r : goal.invariant-loop-r
invariant-loop-r l =
    Filling (flat_of l.g) l.cost l.r l.counts l.shallow
