-- The numbers of the dearest costs: two entries added up, and what an entry is at the end.
use mathlib.Core.Path.{◌≡◌, refl, sym}
use Prim.Native.Nat.{ℕ, zero, suc, ◌+◌, ◌-◌, ◌≤◌, ◌<◌, min, max}
use native.Mathlib.Omega.{arith}
use borrow.Author.Tests.{le-leb, lt-leb}
use Rattle.theory.specs.DearestVisits.{no_bound, add_up, ends_as}
use Rattle.theory.proofs.AddUp.{addup_is}

-- `add_up`
pub adds_up : (x y a b r : ℕ) → 0 < x → 0 < y → a ≡ max x y → b ≡ max a 65535 → r ≡ min (x + y - 1) (b + 1) → r ≡ add_up x y
adds_up x y a b r lx ly ea eb er = rw (er, eb, ea) (sym (addup_is x y lx ly))

-- `ends_as`
pub ends_cost : (x : ℕ) → (x ≡ 0 → ⊥) → x - 1 ≤ 65534 → x - 1 ≡ ends_as x
ends_cost zero n l = absurd (n refl)
ends_cost (suc v) n l = rw (le-leb v 65534 (omega arith)) (omega arith)

pub ends_unbounded : (x : ℕ) → 65534 < x - 1 → no_bound ≤ x → 65535 ≡ ends_as x
ends_unbounded zero h l = absurd (omega arith)
ends_unbounded (suc v) h l = rw (lt-leb v 65534 (omega arith), le-leb no_bound (suc v) l)

pub ends_above : (x : ℕ) → 65534 < x - 1 → x < no_bound → 65537 ≡ ends_as x
ends_above zero h l = absurd (omega arith)
ends_above (suc v) h l = rw (lt-leb v 65534 (omega arith), lt-leb no_bound (suc v) l)
