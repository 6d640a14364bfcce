-- The words below i are joined; the last one, where the tokens do not fill it, is cut at them.
use mathlib.Core.Path.{◌≡◌}
use Prim.Native.Nat.{◌*◌, ◌/◌}
use lib.ListN.{length}
use Rattle.rows.specs.Marks.{Joins}
use Rattle.rows.proofs.inner.join_rest.Given as goal

abbrev pub invariant-loop-i : goal.invariant-loop-i
invariant-loop-i l = (length l.table ≡ length l.initial.table) × Joins l.tokens l.width l.from l.to (l.tokens / 256 * 8 * 32) l.new l.initial.table (l.i * 32) l.all l.table
