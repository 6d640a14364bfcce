-- The bytes that are appended to a lent buffer, and the room for them.
use Rattle.std.specs.Prelude.{Bool, cond, List, [], ◌∷◌, ◌++◌, ℕ, ◌+◌, ◌*◌, ◌≤◌, length}
use Rattle.rows.specs.Marks.{mark}
use Rattle.lines.specs.Text.{decimal, members, spaced}
use Rattle.lines.specs.Line.{Price, flag, priced}

-- the bytes have room from place `from` on
pub record Room (out : List ℕ) (from : ℕ) (bytes : List ℕ) : Type 0 where
  pub fits : from + length bytes ≤ length out

-- what number t adds to the numbers before it: nothing if it is not on, and a space first if some came before
unfoldable pub added : (on some : Bool) → ℕ → List ℕ
added on some t = cond on (cond some (32 ∷ decimal t) (decimal t)) []

-- row r stands in the table, and T marks fit a row
pub record Row (T W : ℕ) (table : List ℕ) (r : ℕ) : Type 0 where
  pub fits : T ≤ W * 32
  pub within : r * W + W ≤ length table

-- the numbers below T that are marked in row r
abbrev pub row_of : (T W : ℕ) → List ℕ → ℕ → List ℕ
row_of T W table r = members T (mark W table r)

-- number and EMPTY, each with the comma after it
unfoldable pub front_of : ℕ → Bool → List ℕ
front_of r e = decimal r ++ (44 ∷ flag e ∷ 44 ∷ [])

-- a set with the comma after it
unfoldable pub row_with : List ℕ → List ℕ
row_with ns = spaced ns ++ (44 ∷ [])

-- FIRST and FOLLOW, each with the comma after it
unfoldable pub sets_of : (first follow : List ℕ) → List ℕ
sets_of first follow = row_with first ++ row_with follow

-- the last field and the line feed
unfoldable pub back_of : Price → List ℕ
back_of p = priced p ++ (10 ∷ [])
