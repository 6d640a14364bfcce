use Rattle.listings.proofs.Placing.{Placing}
use Rattle.listings.proofs.inner.numbers.places.Given as goal

abbrev pub invariant-loop-s : goal.invariant-loop-s
invariant-loop-s l = Placing l.symbols l.a l.e l.counts l.s-index l.m l.bases
