use Rattle.grammar.specs.Lent.{flat_of}
use Rattle.engine.specs.First.{lent as firsts}
use Rattle.profiles.specs.Rows.{Turns}
use Rattle.profiles.proofs.inner.lowest.Given as goal

abbrev pub invariant-loop-p : goal.invariant-loop-p
invariant-loop-p l = Turns (flat_of l.g) (firsts l.first l.empty) l.follow l.p l.low l.above
