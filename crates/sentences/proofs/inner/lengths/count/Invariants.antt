use Rattle.sentences.proofs.Counting.{Counted}
use Rattle.sentences.proofs.inner.lengths.count.Given as goal

abbrev pub invariant-loop-s : goal.invariant-loop-s
invariant-loop-s l = Counted l.symbols l.a l.e l.lengths l.s-index l.n
