use mathlib.Core.Bool.{◌&&◌}
use Rattle.theory.proofs.Below.{Scanned}
use Rattle.rows.specs.Marks.{mark}
use Rattle.profiles.specs.Rows.{row_words}
use Rattle.profiles.proofs.inner.least_shared.Given as goal

abbrev pub invariant-loop-t : goal.invariant-loop-t
invariant-loop-t l = Scanned (λ k. mark row_words l.one 0 k && mark row_words l.other 0 k) l.tokens l.t
