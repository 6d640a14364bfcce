-- The marks of the other row's words below i are joined; the last word, where the tokens do not fill it, is cut at them.
use mathlib.Core.Bool.{not}
use Prim.Native.Nat.{◌*◌}
use lib.Dec.{eqb}
use Rattle.rows.specs.Marks.{mark, Joining}
use Rattle.rows.proofs.inner.join_from.Given as goal

abbrev pub invariant-loop-i : goal.invariant-loop-i
invariant-loop-i l = Joining l.tokens l.width l.initial.table l.table (mark l.width l.other l.from) l.to (l.i * 32) (not (eqb l.new 0))
