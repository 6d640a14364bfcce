use Rattle.grammar.specs.Lent.{flat_of}
use Rattle.engine.specs.First.{lent}
use Rattle.engine.proofs.Rounding.{Turned}
use Rattle.engine.proofs.inner.round.Given as goal

abbrev pub invariant-loop-i : goal.invariant-loop-i
invariant-loop-i g l = Turned (g.T.Table.kind l.kind) (flat_of l.g) l.down l.i (lent l.initial.table l.initial.row) l.read l.more (lent l.table l.row)
