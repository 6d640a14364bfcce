-- The words of the run below k are joined.
use mathlib.Core.Path.{◌≡◌}
use Prim.Native.Nat.{◌+◌, ◌*◌}
use lib.ListN.{length}
use Rattle.rows.specs.Marks.{Joins}
use Rattle.rows.proofs.inner.join_run.Given as goal

abbrev pub invariant-loop-k : goal.invariant-loop-k
invariant-loop-k l = (length l.table ≡ length l.initial.table) × Joins l.tokens l.width l.from l.to (l.i * 8 * 32) l.new l.initial.table ((l.i * 8 + l.k) * 32) l.all l.table
