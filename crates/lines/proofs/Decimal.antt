-- Numbers in decimal: one digit, one more, and that the digits are the number's.
use mathlib.Core.List.{List, [], ◌∷◌, ◌++◌}
use mathlib.Core.Path.{◌≡◌, refl, sym, ap, ◌∙◌, subst}
use Prim.Native.Nat.{ℕ, zero, suc, ◌/◌, ◌%◌, ◌≤◌, ◌<◌}
use native.Mathlib.Decide.{dec_lt}
use native.Mathlib.Omega.{arith}
use lib.ListN.{length, length-append}
use borrow.Author.Tests.{lt-ltb, le-ltb}
use Rattle.lines.specs.Text.{digit, places, decimal}
use Rattle.tables.specs.Append.{Appended}
use Rattle.lines.specs.Append.{Room}
use Rattle.tables.proofs.Appending.{appended_then}
use Rattle.lines.proofs.Appending.{room_after}

places_one : (k n : ℕ) → n < 10 → places k n ≡ digit n ∷ []
unfolding places
places_one zero n l = refl
places_one (suc k) n l = rw (lt-ltb n 10 l)

-- more places than a number has digits change nothing
places_same : (k j n : ℕ) → n ≤ k → n ≤ j → places k n ≡ places j n
unfolding places
places_same zero j n a b = let z : n < 10 = omega arith in sym (places_one j n z)
places_same (suc k) zero n a b = let z : n < 10 = omega arith in places_one (suc k) n z
places_same (suc k) (suc j) n a b = elim (dec_lt n 10) [
  | yes l ↦ rw (lt-ltb n 10 l)
  | no l ↦ rw (le-ltb n 10 (omega arith), places_same k j (n / 10) (omega arith) (omega arith))
]

-- one digit
pub decimal_one : (n : ℕ) → n < 10 → decimal n ≡ digit n ∷ []
unfolding decimal
decimal_one n l = places_one n n l

-- ten or more: the digits of n / 10, and n % 10
pub decimal_more : (n : ℕ) → 10 ≤ n → decimal n ≡ decimal (n / 10) ++ (digit (n % 10) ∷ [])
unfolding decimal places
decimal_more zero l = absurd (omega arith)
decimal_more (suc n) l = rw (le-ltb (suc n) 10 l) (ap (λ ds. ds ++ (digit (suc n % 10) ∷ [])) (places_same n (suc n / 10) (suc n / 10) (omega arith) (omega arith)))

-- a number has a digit, and a smaller one no more digits
pub decimal_some : (n : ℕ) → 1 ≤ length (decimal n)
decimal_some n = elim (dec_lt n 10) [
  | yes l ↦ omega (arith, ap length (decimal_one n l))
  | no l ↦ let z : 10 ≤ n = omega arith in omega (arith, ap length (decimal_more n z), length-append (decimal (n / 10)) (digit (n % 10) ∷ []))
]

pub decimal_less : (k m n : ℕ) → m ≤ k → m ≤ n → length (decimal m) ≤ length (decimal n)
decimal_less zero m n a b = let z : m < 10 = omega arith in omega (arith, ap length (decimal_one m z), decimal_some n)
decimal_less (suc k) m n a b = elim (dec_lt m 10) [
  | yes l ↦ omega (arith, ap length (decimal_one m l), decimal_some n)
  | no l ↦
      let x : 10 ≤ m = omega arith in
      let y : 10 ≤ n = omega arith in
      omega (arith, ap length (decimal_more m x), ap length (decimal_more n y), length-append (decimal (m / 10)) (digit (m % 10) ∷ []), length-append (decimal (n / 10)) (digit (n % 10) ∷ []), decimal_less k (m / 10) (n / 10) (omega arith) (omega arith))
]

-- `number`
module _ (ws : List ℕ) (from n : ℕ) where
  pub one_room : (d : ℕ) → Room ws from (decimal n) → Room ws from (d ∷ [])
  one_room d r = record { fits = omega (arith, r.fits, decimal_some n) }

  pub one_made : (d k : ℕ) → n < k → k ≤ 10 → d ≡ digit n → (to : List ℕ) (m : ℕ) → Appended ws from (d ∷ []) to m → Appended ws from (decimal n) to m
  one_made d k l h e to m x = let z : n < 10 = omega arith in subst (λ ds. Appended ws from ds to m) (sym (decimal_one n z ∙ ap (λ x. x ∷ []) (sym e))) x

  pub less_room : (m : ℕ) → m ≤ n → Room ws from (decimal n) → Room ws from (decimal m)
  less_room m l r = record { fits = omega (arith, r.fits, decimal_less m m n (omega arith) l) }

  module _ (l : 10 ≤ n) (mid : List ℕ) (next : ℕ) (x : Appended ws from (decimal (n / 10)) mid next) (d : ℕ) where
    pub last_room : Room ws from (decimal n) → Room mid next (d ∷ [])
    last_room r = room_after ws (decimal n) mid (decimal (n / 10)) (d ∷ []) from next r x (omega (arith, ap length (decimal_more n l), length-append (decimal (n / 10)) (digit (n % 10) ∷ [])))

    pub last_made : d ≡ digit (n % 10) → (to : List ℕ) (m : ℕ) → Appended mid next (d ∷ []) to m → Appended ws from (decimal n) to m
    last_made e to m y = subst (λ ds. Appended ws from ds to m) (sym (decimal_more n l ∙ ap (λ z. decimal (n / 10) ++ (z ∷ [])) (sym e))) (appended_then x y)
