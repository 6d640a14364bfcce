-- Text as bytes: numbers in decimal, sets of numbers, and parts with a byte between.
use Rattle.std.specs.Prelude.{Bool, cond, ◌≡◌, ℕ, zero, suc, ◌+◌, ◌-◌, ◌*◌, ◌/◌, ◌%◌, ◌≤◌, ◌<◌, ltb, length, get_or}
use mathlib.Core.List.{List, [], ◌∷◌, ◌++◌, map, Memᴰ}

-- the byte of a digit: 48 is '0'
abbrev pub digit : ℕ → ℕ
digit d = 48 + d

-- n in decimal, if it has at most k+1 digits: the digits of n / 10, and then n % 10
unfoldable pub places : ℕ → ℕ → List ℕ
places zero n = digit n ∷ []
places (suc k) n = cond (ltb n 10) (digit n ∷ []) (places k (n / 10) ++ (digit (n % 10) ∷ []))

-- a number in decimal without leading zeros: n has at most n+1 digits
unfoldable pub decimal : ℕ → List ℕ
decimal n = places n n

-- the number that decimal digits stand for, after those of value n
abbrev pub value_from : ℕ → List ℕ → ℕ
value_from n [] = n
value_from n (b ∷ bs) = value_from (n * 10 + (b - 48)) bs

-- the number that decimal digits stand for
abbrev pub value : List ℕ → ℕ
value bs = value_from 0 bs

-- a byte is a digit
pub record IsDigit (b : ℕ) : Type 0 where
  pub low : 48 ≤ b
  pub high : b ≤ 57

-- bytes are the decimal number n, without leading zeros: the first digit is 0 only if n is, and then it is the only one
pub record IsDecimal (n : ℕ) (bs : List ℕ) : Type 0 where
  pub some : 1 ≤ length bs
  pub digits : (b : ℕ) → Memᴰ b bs → IsDigit b
  pub is : value bs ≡ n
  pub leading : get_or bs 0 0 ≡ 48 → (n ≡ 0) × (length bs ≡ 1)

-- the numbers below n that pass, rising
unfoldable pub members : ℕ → (ℕ → Bool) → List ℕ
members zero f = []
members (suc n) f = cond (f n) (members n f ++ (n ∷ [])) (members n f)

-- each number is below those after it
pub data Rising : List ℕ → Type 0 where
  none : Rising []
  next : {n : ℕ} {ns : List ℕ} → ((m : ℕ) → Memᴰ m ns → n < m) → Rising ns → Rising (n ∷ ns)

-- each part after the byte
unfoldable pub after : ℕ → List (List ℕ) → List ℕ
after byte [] = []
after byte (p ∷ ps) = byte ∷ (p ++ after byte ps)

-- parts with the byte between, nothing for no part
unfoldable pub between : ℕ → List (List ℕ) → List ℕ
between byte [] = []
between byte (p ∷ ps) = p ++ after byte ps

-- a set: numbers with one space between, nothing for an empty set; 32 is ' '
unfoldable pub spaced : List ℕ → List ℕ
spaced ns = between 32 (map decimal ns)
