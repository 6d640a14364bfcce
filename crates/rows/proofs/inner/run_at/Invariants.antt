-- The words below k are read.
use Rattle.rows.specs.Marks.{Copied}
use Rattle.rows.proofs.inner.run_at.Given as goal

abbrev pub invariant-loop-k : goal.invariant-loop-k
invariant-loop-k l = Copied l.k l.table l.at l.word-items
