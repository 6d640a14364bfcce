-- How long the lines are: a rule's has at most 3888 bytes.
use mathlib.Core.Bool.{Bool, true, false}
use mathlib.Core.List.{[], ◌∷◌, ◌++◌}
use mathlib.Core.Path.{refl, ap}
use Prim.Native.Nat.{ℕ, zero, suc, ◌+◌, ◌-◌, ◌*◌, ◌/◌, ◌%◌, ◌≤◌, ◌<◌}
use native.Mathlib.Decide.{dec_lt, dec_le}
use native.Mathlib.Omega.{arith}
use lib.ListN.{length, length-append}
use Rattle.grammar.specs.Flat.{Flat, at}
use Rattle.grammar.specs.Well.{WellFormed}
use Rattle.rows.specs.Marks.{mark}
use Rattle.tables.specs.Sizes.{words}
use Rattle.lines.specs.Text.{digit, decimal, members, between, spaced}
use Rattle.lines.specs.Line.{flag, price_of, priced, line_of, refused_of}
use Rattle.lines.specs.Append.{added, front_of, row_with, sets_of, back_of}
use Rattle.lines.specs.Lent.{Tables, entry_of}
use Rattle.lines.proofs.Decimal.{decimal_one, decimal_more}
use Rattle.lines.proofs.Fields.{line_parts, amount_is, word_long}
use Rattle.lines.proofs.Sets.{any, spaced_more}

-- numbers below b have at most k digits, so those below 10 b at most k + 1
one_more : (b k : ℕ) → 1 ≤ k → ((n : ℕ) → n < b → length (decimal n) ≤ k) → (n : ℕ) → n < b * 10 → length (decimal n) ≤ k + 1
one_more b k lk h n l = elim (dec_lt n 10) [
  | yes s ↦ omega (arith, ap length (decimal_one n s))
  | no s ↦ let z : 10 ≤ n = omega arith in omega (arith, ap length (decimal_more n z), length-append (decimal (n / 10)) (digit (n % 10) ∷ []), h (n / 10) (omega arith))
]

pub one_digit : (n : ℕ) → n < 10 → length (decimal n) ≤ 1
one_digit n l = omega (arith, ap length (decimal_one n l))

pub two_digits : (n : ℕ) → n < 100 → length (decimal n) ≤ 2
two_digits = one_more 10 1 (omega arith) one_digit

pub three_digits : (n : ℕ) → n < 1000 → length (decimal n) ≤ 3
three_digits = one_more 100 2 (omega arith) two_digits

pub five_digits : (n : ℕ) → n < 100000 → length (decimal n) ≤ 5
five_digits = one_more 10000 4 (omega arith) (one_more 1000 3 (omega arith) three_digits)

-- what the numbers below n take with a space each: two bytes, one more from 10 on, and one more from 100 on
abbrev wide : ℕ → ℕ
wide n = 2 * n + (n - 10) + (n - 100)

wide_more : (n : ℕ) → n < 1000 → length (decimal n) + 1 + wide n ≤ wide (suc n)
wide_more n l = elim (dec_lt n 10) [
  | yes s ↦ omega (arith, one_digit n s)
  | no s ↦ elim (dec_lt n 100) [ yes q ↦ omega (arith, two_digits n q) | no q ↦ omega (arith, three_digits n l) ]
]

added_long : (b a : Bool) (n : ℕ) → length (added b a n) ≤ length (decimal n) + 1
unfolding added
added_long true true n = omega arith
added_long true false n = omega arith
added_long false a n = omega arith

first_long : (b : Bool) (n : ℕ) → length (added b false n) ≤ length (decimal n)
unfolding added
first_long true n = omega arith
first_long false n = omega arith

-- a set takes one space fewer
set_long : (f : ℕ → Bool) (n : ℕ) → n ≤ 1000 → length (spaced (members n f)) ≤ wide n - 1
unfolding members between spaced
set_long f zero l = omega arith
set_long f (suc zero) l = omega (arith, ap length (spaced_more f 0 (f 0) refl), length-append (spaced (members 0 f)) (added (f 0) (any (members 0 f)) 0), first_long (f 0) 0, one_digit 0 (omega arith))
set_long f (suc (suc n)) l = omega (arith, set_long f (suc n) (omega arith), ap length (spaced_more f (suc n) (f (suc n)) refl), length-append (spaced (members (suc n) f)) (added (f (suc n)) (any (members (suc n) f)) (suc n)), added_long (f (suc n)) (any (members (suc n) f)) (suc n), wide_more (suc n) (omega arith))

pub row_long : (f : ℕ → Bool) (T : ℕ) → T ≤ 512 → length (row_with (members T f)) ≤ 1938
unfolding row_with
row_long f T l = omega (arith, set_long f T (omega arith), length-append (spaced (members T f)) (44 ∷ []))

pub front_long : (r : ℕ) (e : Bool) → r < 512 → length (front_of r e) ≤ 6
unfolding front_of
front_long r e l = omega (arith, three_digits r (omega arith), length-append (decimal r) (44 ∷ flag e ∷ 44 ∷ []))

price_long : (n : ℕ) → length (priced (price_of n)) ≤ 5
price_long n = elim (dec_le n 65535) [
  | yes l ↦ omega (arith, ap length (amount_is n l), five_digits n (omega arith))
  | no l ↦ omega (arith, word_long n (omega arith))
]

pub back_long : (n : ℕ) → length (back_of (price_of n)) ≤ 6
unfolding back_of
back_long n = omega (arith, price_long n, length-append (priced (price_of n)) (10 ∷ []))

pub line_long : (R T r : ℕ) (l : Tables) → R ≤ 512 → T ≤ 512 → r < R → length (line_of (entry_of R T r l)) ≤ 3888
unfolding sets_of
line_long R T r l lr lt k =
    let e = entry_of R T r l in
    omega (
      arith,
      ap length (line_parts (entry_of R T r l)),
      front_long r e.empty (omega arith),
      row_long (mark (words T) l.first r) T lt,
      row_long (mark (words T) l.follow r) T lt,
      back_long (at l.cost r),
      length-append (front_of e.number e.empty) (sets_of e.first e.follow ++ back_of e.cost),
      length-append (sets_of e.first e.follow) (back_of e.cost),
      length-append (row_with e.first) (row_with e.follow),
    )

-- the line of a rule of a well-formed grammar
pub line_short : (g : Flat) → WellFormed g → (r : ℕ) → r < g.rules → (l : Tables) → length (line_of (entry_of g.rules (length g.costs) r l)) ≤ 3888
line_short g w r k l = line_long g.rules (length g.costs) r l w.sizes.rules_high w.sizes.tokens_high k

pub refused_long : (n : ℕ) → n < 65536 → length (refused_of n) ≤ 14
unfolding refused_of
refused_long n l = omega (arith, five_digits n (omega arith), length-append (decimal n) (10 ∷ []))
