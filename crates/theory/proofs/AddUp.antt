-- Two ways of adding the entries of a production: as numbers, and by `add_up`.
use mathlib.Core.Path.{◌≡◌, refl, sym, ◌∙◌}
use Prim.Native.Nat.{ℕ, zero, suc, ◌+◌, ◌-◌, ◌≤◌, ◌<◌, min, max}
use native.Mathlib.Nat.{not-suc-le-zero}
use native.Mathlib.Omega.{arith}
use Rattle.theory.specs.DearestVisits.{no_bound, add_up}
use Rattle.theory.proofs.DearestLevels.{WayToAdd}

-- as numbers
abbrev pub plus : ℕ → ℕ → ℕ
plus zero y = 0
plus (suc v) zero = 0
plus (suc v) (suc u) = suc (v + u)

-- a way of adding that knows a sum where it knows both parts, and then is f of the parts less one each
way : (op f : ℕ → ℕ → ℕ) → ((y : ℕ) → op 0 y ≡ 0) → ((v : ℕ) → op (suc v) 0 ≡ 0) → ((v u : ℕ) → op (suc v) (suc u) ≡ suc (f v u)) → ((v u w z : ℕ) → v ≤ w → u ≤ z → f v u ≤ f w z) → ((v u : ℕ) → f v u ≤ v + u) → WayToAdd op
way op f left right both grows most = record { known = known; mono = mono; upto = upto }
  where
    known : (x y : ℕ) → 0 < op x y → (0 < x) × (0 < y)
    known zero y lt = absurd (omega (arith, left y))
    known (suc v) zero lt = absurd (omega (arith, right v))
    known (suc v) (suc u) lt = (omega arith, omega arith)

    mono : (x y z u : ℕ) → x ≤ z → y ≤ u → op x y ≤ op z u
    mono zero y z u a b = omega (arith, left y)
    mono (suc v) zero z u a b = omega (arith, right v)
    mono (suc v) (suc y) zero u a b = absurd (omega arith)
    mono (suc v) (suc y) (suc z) zero a b = absurd (omega arith)
    mono (suc v) (suc y) (suc z) (suc u) a b = omega (arith, both v y, both z u, grows v y z u (omega arith) (omega arith))

    upto : (x y : ℕ) → 0 < x → 0 < y → op x y < x + y
    upto zero y a b = absurd (omega arith)
    upto (suc v) zero a b = absurd (omega arith)
    upto (suc v) (suc u) a b = omega (arith, both v u, most v u)

pub plus_adds : WayToAdd plus
plus_adds = way plus ◌+◌ (λ y. refl) (λ v. refl) (λ v u. refl) (λ v u w z a b. omega arith) (λ v u. omega arith)

pub addup_adds : WayToAdd add_up
addup_adds = way add_up (λ v u. min (v + u) (max (max v u) 65534 + 1)) (λ y. refl) (λ v. refl) (λ v u. refl) (λ v u w z a b. omega arith) (λ v u. omega arith)

-- the same without taking the numbers apart, as a loop adds
pub addup_is : (x y : ℕ) → 0 < x → 0 < y → add_up x y ≡ min (x + y - 1) (max (max x y) 65535 + 1)
addup_is zero y a b = absurd (not-suc-le-zero a)
addup_is (suc v) zero a b = absurd (not-suc-le-zero b)
addup_is (suc v) (suc u) a b = cut (max v u) (v + u) ∙ sym (rw (sums, both) refl)
  where
    cut : (m n : ℕ) → suc (min n (max m 65534 + 1)) ≡ min (suc n) (max (suc m) 65535 + 1)
    cut m n = omega arith

    both : max (suc v) (suc u) ≡ suc (max v u)
    both = omega arith

    sums : suc v + suc u - 1 ≡ suc (v + u)
    sums = omega arith

-- known parts make a known sum
pub addup_known : (x y : ℕ) → 0 < x → 0 < y → 0 < add_up x y
addup_known x y a b = omega (arith, addup_is x y a b)

-- one step adds at most one beyond 65536
pub addup_grows : (x y M : ℕ) → 65535 ≤ M → x ≤ M → y ≤ M → add_up x y ≤ suc M
addup_grows zero y M a b c = omega arith
addup_grows (suc v) zero M a b c = omega arith
addup_grows (suc v) (suc u) M a b c = omega arith

-- a bound of costs beyond 65534
abbrev double : ℕ → ℕ
double zero = 1
double (suc n) = double n + double n

double_up : (n : ℕ) → n < double n
double_up zero = omega arith
double_up (suc n) = omega (arith, double_up n)

double_mono : (m n : ℕ) → m ≤ n → double m ≤ double n
double_mono zero n l = omega (arith, double_up n)
double_mono (suc m) zero l = absurd (not-suc-le-zero l)
double_mono (suc m) (suc n) l = omega (arith, double_mono m n (omega arith))

abbrev pub cap : ℕ → ℕ
cap zero = 0
cap (suc v) = double v

pub cap_mono : (m n : ℕ) → m ≤ n → cap m ≤ cap n
cap_mono zero n l = omega arith
cap_mono (suc m) zero l = absurd (not-suc-le-zero l)
cap_mono (suc m) (suc n) l = double_mono m n (omega arith)

-- an entry x allows a cost c: exactly that up to 65534, and beyond it still some number
pub record Allows (x c : ℕ) : Type 0 where
  pub known : 0 < x
  pub exact : x ≤ 65535 → c < x
  pub bound : x < no_bound → c < cap x

addup_cap : (x y c d : ℕ) → c < cap x → d < cap y → c + d < cap (add_up x y)
addup_cap zero y c d a b = absurd (not-suc-le-zero a)
addup_cap (suc v) zero c d a b = absurd (not-suc-le-zero b)
addup_cap (suc zero) (suc u) c d a b = omega (arith, double_mono u (min (0 + u) (max (max 0 u) 65534 + 1)) (omega arith))
addup_cap (suc (suc v)) (suc zero) c d a b = omega (arith, double_mono (suc v) (min (suc v + 0) (max (max (suc v) 0) 65534 + 1)) (omega arith))
addup_cap (suc (suc v)) (suc (suc u)) c d a b =
    omega (arith, double_mono (suc v) (max (suc v) (suc u)) (omega arith), double_mono (suc u) (max (suc v) (suc u)) (omega arith), double_mono (suc (max (suc v) (suc u))) (min (suc v + suc u) (max (max (suc v) (suc u)) 65534 + 1)) (omega arith))

pub addup_allows : (x y c d : ℕ) → Allows x c → Allows y d → Allows (add_up x y) (c + d)
addup_allows x y c d h i = record {
  known = addup_known x y h.known i.known;
  exact = λ l. let e = addup_is x y h.known i.known in omega (arith, h.exact (omega arith), i.exact (omega arith));
  bound = λ l. let e = addup_is x y h.known i.known in addup_cap x y c d (h.bound (omega arith)) (i.bound (omega arith));
}

pub token_allows : (n : ℕ) → Allows (suc n) n
token_allows n = record { known = omega arith; exact = λ l. omega arith; bound = λ l. omega (arith, double_up n) }
