-- The marks of the runs below i are joined; then what is left after them.
use mathlib.Core.Bool.{not}
use Prim.Native.Nat.{◌*◌}
use lib.Dec.{eqb}
use Rattle.rows.specs.Marks.{mark, Joining}
use Rattle.rows.proofs.inner.join.Given as goal

abbrev pub invariant-loop-i : goal.invariant-loop-i
invariant-loop-i l = Joining l.tokens l.width l.initial.table l.table (mark l.width l.initial.table l.from) l.to (l.i * 8 * 32) (not (eqb l.new 0))
