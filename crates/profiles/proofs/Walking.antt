-- FIRST's walk for a row of its own.
use mathlib.Core.Bool.{Bool}
use mathlib.Core.List.{List}
use Prim.Native.Nat.{ℕ}
use native.Mathlib.Omega.{arith}
use lib.ListN.{replicate}
use Rattle.rows.specs.Marks.{Small}
use Rattle.rows.proofs.Tables.{cleared_row}
use Rattle.engine.specs.First.{Lent as Firsts}
use Rattle.engine.proofs.FirstWalking.{Walking, walk_start}
use Rattle.profiles.specs.Rows.{row_words, Walkable}

-- a zero row
pub zero_small : Small (replicate row_words 0)
zero_small = (cleared_row row_words).small

-- before number k of `symbols[a..e]`, whether a mark is new or not
pub record Going (R T : ℕ) (symbols : List ℕ) (a e : ℕ) (l : Firsts) (ws now : List ℕ) (k : ℕ) : Type 0 where
  pub new : Bool
  pub at : Walking R T symbols a e 0 l ws now new k

pub going_start : (R T : ℕ) (symbols : List ℕ) (a e : ℕ) (l : Firsts) (row : List ℕ) → Walkable R T symbols a e l row → Going R T symbols a e l row row 0
going_start R T symbols a e l row ok = rw ok.zero (record {
  new = _;
  at = walk_start R T symbols a e 0 l ok.forth (replicate row_words 0) (omega (arith, (cleared_row row_words).len, ok.forth.few_tokens)) zero_small;
})
