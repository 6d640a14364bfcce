-- Room for what is appended.
use mathlib.Core.List.{List, [], ◌∷◌, ◌++◌}
use Prim.Native.Nat.{ℕ, ◌+◌, ◌≤◌, ◌<◌}
use native.Mathlib.Omega.{arith}
use lib.ListN.{length, length-append}
use Rattle.tables.specs.Append.{Appended}
use Rattle.tables.proofs.Appending.{appended_long}
use Rattle.lines.specs.Append.{Room}

-- room for both is room for the first, and then for the second
pub room_front : (ws a b : List ℕ) (from : ℕ) → Room ws from (a ++ b) → Room ws from a
room_front ws a b from r = record { fits = omega (arith, r.fits, length-append a b) }

pub room_back : (ws to a b : List ℕ) (from n : ℕ) → Room ws from (a ++ b) → Appended ws from a to n → Room to n b
room_back ws to a b from n r x = record { fits = omega (arith, r.fits, length-append a b, x.next, appended_long x) }

-- and for anything as short
pub room_after : (ws all to a more : List ℕ) (from n : ℕ) → Room ws from all → Appended ws from a to n → length a + length more ≤ length all → Room to n more
room_after ws all to a more from n r x l = record { fits = omega (arith, r.fits, x.next, appended_long x) }

-- one byte
pub put_in : (ws : List ℕ) (from byte : ℕ) → Room ws from (byte ∷ []) → from < length ws
put_in ws from byte r = omega (arith, r.fits)
