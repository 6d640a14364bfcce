-- The digits of a number are its digits: each is one of 0 to 9, their value is the number, and the first is not 0 unless the number is.
use mathlib.Core.List.Memᴰ
use mathlib.Core.List.{List, [], ◌∷◌, ◌++◌}
use mathlib.Core.Logic.{⊎_elim}
use mathlib.Core.Path.{◌≡◌, refl, sym, ap, ◌∙◌, subst}
use Prim.Native.Nat.{ℕ, zero, suc, ◌+◌, ◌-◌, ◌*◌, ◌/◌, ◌%◌, ◌≤◌, ◌<◌}
use native.Mathlib.Decide.{dec_lt}
use native.Mathlib.Omega.{arith}
use lib.ListN.{length, get_or, length-append, get_or-append}
use Rattle.lines.specs.Text.{digit, decimal, value_from, IsDecimal}
use Rattle.lines.proofs.Decimal.{decimal_one, decimal_more}

value_snoc : (bs : List ℕ) (n b : ℕ) → value_from n (bs ++ (b ∷ [])) ≡ value_from n bs * 10 + (b - 48)
value_snoc [] n b = refl
value_snoc (c ∷ bs) n b = value_snoc bs (n * 10 + (c - 48)) b

one_digit : (n : ℕ) → n < 10 → IsDecimal n (digit n ∷ [])
one_digit n l = record {
  some = omega arith;
  digits = λ b m. let e = Memᴰ.eq_of_singleton m in record { low = omega (arith, e); high = omega (arith, e) };
  is = omega arith;
  leading = λ e. (omega arith, refl);
}

one_more : (n : ℕ) (bs : List ℕ) → 10 ≤ n → IsDecimal (n / 10) bs → IsDecimal n (bs ++ (digit (n % 10) ∷ []))
one_more n bs l x = record {
  some = omega (arith, x.some, length-append bs (digit (n % 10) ∷ []));
  digits = λ b m. ⊎_elim (λ h. x.digits b h) (λ h. let e = Memᴰ.eq_of_singleton h in record { low = omega (arith, e); high = omega (arith, e) }) (Memᴰ.append_cases bs m);
  is = value_snoc bs 0 (digit (n % 10)) ∙ rw x.is (omega arith);
  leading = λ e. let z = x.leading (sym (get_or-append bs (digit (n % 10) ∷ []) 0 0 x.some) ∙ e) in absurd (omega (arith, z.0));
}

-- a number in decimal
pub decimal_is : (n : ℕ) → IsDecimal n (decimal n)
decimal_is n = go n n (omega arith)
  where
    go : (k n : ℕ) → n ≤ k → IsDecimal n (decimal n)
    go zero n l = let z : n < 10 = omega arith in rw (decimal_one n z) (one_digit n z)
    go (suc k) n l = elim (dec_lt n 10) [
      | yes s ↦ rw (decimal_one n s) (one_digit n s)
      | no s ↦ let z : 10 ≤ n = omega arith in rw (decimal_more n z) (one_more n (decimal (n / 10)) z (go k (n / 10) (omega arith)))
    ]

-- the last byte, and those before it
record Ending (bs : List ℕ) : Type 0 where
  front : List ℕ
  last : ℕ
  is : bs ≡ front ++ (last ∷ [])

ending : (b : ℕ) (bs : List ℕ) → Ending (b ∷ bs)
ending b [] = record { front = []; last = b; is = refl }
ending b (c ∷ bs) = let e = ending c bs in record { front = b ∷ e.front; last = e.last; is = ap (λ z. b ∷ z) e.is }

-- and no other bytes are: by the number of bytes
only_snoc : (k n b : ℕ) (bs : List ℕ) → ((m : ℕ) (ds : List ℕ) → length ds ≤ k → IsDecimal m ds → ds ≡ decimal m) → length bs ≤ k → IsDecimal n (bs ++ (b ∷ [])) → bs ++ (b ∷ []) ≡ decimal n
only_snoc k n b [] h l x =
    let d = x.digits b (Memᴰ.head refl) in
    let e : n ≡ b - 48 = omega (arith, x.is) in
    let z : n < 10 = omega (arith, d.high) in
    sym (decimal_one n z ∙ ap (λ y. y ∷ []) (let q : digit n ≡ b = omega (arith, d.low) in q))
only_snoc k n b (c ∷ bs) h l x =
    let ds = c ∷ bs in
    let d = x.digits b (Memᴰ.append_right ds (Memᴰ.head refl)) in
    let v = value_snoc ds 0 b in
    let long = length-append ds (b ∷ []) in
    let init : IsDecimal (n / 10) ds = record {
      some = omega arith;
      digits = λ y m. x.digits y (Memᴰ.append_left (b ∷ []) m);
      is = omega (arith, v, x.is, d.low, d.high);
      leading = λ e. let z = x.leading e in absurd (omega (arith, z.1, long));
    } in
    let same : ds ≡ decimal (n / 10) = h (n / 10) ds l init in
    let ten : 10 ≤ n = elim (dec_lt n 10) [
      | yes s ↦ (let q = x.leading (ap (λ y. get_or y 0 0) (same ∙ decimal_one (n / 10) (omega arith)) ∙ (let w : digit (n / 10) ≡ 48 = omega arith in w)) in absurd (omega (arith, q.1, long)))
      | no s ↦ omega arith
    ] in
    ap (λ y. y ++ (b ∷ [])) same ∙ ap (λ y. decimal (n / 10) ++ (y ∷ [])) (let q : b ≡ digit (n % 10) = omega (arith, v, x.is, d.low, d.high) in q) ∙ sym (decimal_more n ten)

only_long : (k n : ℕ) (bs : List ℕ) → length bs ≤ k → IsDecimal n bs → bs ≡ decimal n
only_long zero n bs l x = absurd (omega (arith, x.some))
only_long (suc k) n [] l x = absurd (omega (arith, x.some))
only_long (suc k) n (b ∷ bs) l x =
    let e = ending b bs in
    e.is ∙ only_snoc k n e.last e.front (only_long k) (omega (arith, ap length e.is, length-append e.front (e.last ∷ []))) (subst (λ z. IsDecimal n z) e.is x)

pub decimal_only : (n : ℕ) (bs : List ℕ) → IsDecimal n bs → bs ≡ decimal n
decimal_only n bs x = only_long (length bs) n bs (omega arith) x
