-- A line can be read back: two entries with the same line have the same fields.
use mathlib.Core.Bool.{Bool, true, false}
use mathlib.Core.List.Memᴰ
use mathlib.Core.List.{List, [], ◌∷◌, ◌++◌, map, append_assoc, append-nil, Memᴰ}
use mathlib.Core.Logic.{⊎_elim}
use mathlib.Core.Path.{◌≡◌, refl, sym, ap, ◌∙◌, subst}
use Prim.Native.Nat.{ℕ, ◌≤◌, ◌<◌}
use native.Mathlib.Omega.{arith}
use lib.ListN.{length, length-append}
use Rattle.lines.specs.Text.{decimal, value, after, between, spaced}
use Rattle.lines.specs.Line.{Price, amount, none, dear, Entry, flag, priced, line_of}
use Rattle.lines.proofs.Decimal.{decimal_some}
use Rattle.lines.proofs.Digits.{decimal_is}

-- the byte does not stand among the bytes
abbrev Without : ℕ → List ℕ → Type 0
Without byte bs = (m : ℕ) → Memᴰ m bs → m ≡ byte → ⊥

without_none : (byte : ℕ) → Without byte []
without_none byte m k e = Memᴰ.not-nil k

without_cons : (byte x : ℕ) (bs : List ℕ) → (x ≡ byte → ⊥) → Without byte bs → Without byte (x ∷ bs)
without_cons byte x bs h w m k e = ⊎_elim (λ q. h (sym q ∙ e)) (λ q. w m q e) (Memᴰ.cases_cons k)

without_both : (byte : ℕ) (xs bs : List ℕ) → Without byte xs → Without byte bs → Without byte (xs ++ bs)
without_both byte xs bs v w m k e = ⊎_elim (λ q. v m q e) (λ q. w m q e) (Memᴰ.append_cases xs k)

same_head : {x y : ℕ} {xs ys : List ℕ} → x ∷ xs ≡ y ∷ ys → x ≡ y
same_head e = cc

same_tail : {x y : ℕ} {xs ys : List ℕ} → x ∷ xs ≡ y ∷ ys → xs ≡ ys
same_tail e = cc

-- what stands before the first such byte, and after it
split_one : (byte : ℕ) (xs ys us vs : List ℕ) → Without byte xs → Without byte ys → xs ++ (byte ∷ us) ≡ ys ++ (byte ∷ vs) → (xs ≡ ys) × (us ≡ vs)
split_one byte [] [] us vs v w e = (refl, same_tail e)
split_one byte [] (y ∷ ys) us vs v w e = absurd (w y (Memᴰ.head refl) (sym (same_head e)))
split_one byte (x ∷ xs) [] us vs v w e = absurd (v x (Memᴰ.head refl) (same_head e))
split_one byte (x ∷ xs) (y ∷ ys) us vs v w e =
    let h = split_one byte xs ys us vs (λ m k. v m (Memᴰ.tail k)) (λ m k. w m (Memᴰ.tail k)) (same_tail e) in
    (ap (λ z. z ∷ xs) (same_head e) ∙ ap (λ zs. y ∷ zs) h.0, h.1)

-- numbers
decimal_without : (byte n : ℕ) → byte < 48 → Without byte (decimal n)
decimal_without byte n l m k e = absurd (omega (arith, ((decimal_is n).digits m k).low))

pub decimal_same : (m n : ℕ) → decimal m ≡ decimal n → m ≡ n
decimal_same m n e = sym (decimal_is m).is ∙ ap value e ∙ (decimal_is n).is

-- sets: each number with a space after it
ended : List ℕ → List ℕ
ended [] = []
ended (n ∷ ns) = decimal n ++ (32 ∷ ended ns)

after_ended : (ns : List ℕ) → after 32 (map decimal ns) ++ (32 ∷ []) ≡ 32 ∷ ended ns
unfolding after ended
after_ended [] = refl
after_ended (n ∷ ns) = ap (λ z. 32 ∷ z) (append_assoc (decimal n) (after 32 (map decimal ns)) (32 ∷ []) ∙ ap (λ z. decimal n ++ z) (after_ended ns))

spaced_ended : (n : ℕ) (ns : List ℕ) → spaced (n ∷ ns) ++ (32 ∷ []) ≡ ended (n ∷ ns)
unfolding spaced between ended
spaced_ended n ns = append_assoc (decimal n) (after 32 (map decimal ns)) (32 ∷ []) ∙ ap (λ z. decimal n ++ z) (after_ended ns)

not_ended : (n : ℕ) (ns : List ℕ) → [] ≡ ended (n ∷ ns) → ⊥
unfolding ended
not_ended n ns e = omega (arith, ap length e, length-append (decimal n) (32 ∷ ended ns))

ended_same : (ms ns : List ℕ) → ended ms ≡ ended ns → ms ≡ ns
unfolding ended
ended_same [] [] e = refl
ended_same [] (n ∷ ns) e = absurd (not_ended n ns e)
ended_same (m ∷ ms) [] e = absurd (not_ended m ms (sym e))
ended_same (m ∷ ms) (n ∷ ns) e =
    let h = split_one 32 (decimal m) (decimal n) (ended ms) (ended ns) (decimal_without 32 m (omega arith)) (decimal_without 32 n (omega arith)) e in
    ap (λ z. z ∷ ms) (decimal_same m n h.0) ∙ ap (λ z. n ∷ z) (ended_same ms ns h.1)

not_spaced : (n : ℕ) (ns : List ℕ) → [] ≡ spaced (n ∷ ns) → ⊥
unfolding spaced between
not_spaced n ns e = omega (arith, ap length e, length-append (decimal n) (after 32 (map decimal ns)), decimal_some n)

spaced_none : spaced [] ≡ []
unfolding spaced between
spaced_none = refl

pub spaced_same : (ms ns : List ℕ) → spaced ms ≡ spaced ns → ms ≡ ns
spaced_same [] [] e = refl
spaced_same [] (n ∷ ns) e = absurd (not_spaced n ns (sym spaced_none ∙ e))
spaced_same (m ∷ ms) [] e = absurd (not_spaced m ms (sym spaced_none ∙ sym e))
spaced_same (m ∷ ms) (n ∷ ns) e = ended_same (m ∷ ms) (n ∷ ns) (sym (spaced_ended m ms) ∙ ap (λ z. z ++ (32 ∷ [])) e ∙ spaced_ended n ns)

after_without : (ns : List ℕ) → Without 44 (after 32 (map decimal ns))
unfolding after
after_without [] = without_none 44
after_without (n ∷ ns) = without_cons 44 32 (decimal n ++ after 32 (map decimal ns)) (λ e. omega arith) (without_both 44 (decimal n) (after 32 (map decimal ns)) (decimal_without 44 n (omega arith)) (after_without ns))

spaced_without : (ns : List ℕ) → Without 44 (spaced ns)
unfolding spaced between
spaced_without [] = without_none 44
spaced_without (n ∷ ns) = without_both 44 (decimal n) (after 32 (map decimal ns)) (decimal_without 44 n (omega arith)) (after_without ns)

-- EMPTY
flag_without : (b : Bool) → Without 44 (flag b ∷ [])
flag_without true = without_cons 44 49 [] (λ e. omega arith) (without_none 44)
flag_without false = without_cons 44 48 [] (λ e. omega arith) (without_none 44)

flag_same : (a b : Bool) → flag a ∷ [] ≡ flag b ∷ [] → a ≡ b
flag_same true true e = refl
flag_same true false e = absurd (omega (arith, same_head e))
flag_same false true e = absurd (omega (arith, same_head e))
flag_same false false e = refl

-- the last field
priced_without : (p : Price) → Without 10 (priced p)
unfolding priced
priced_without (amount n) = decimal_without 10 n (omega arith)
priced_without none = without_cons 10 110 _ (λ e. omega arith) (without_cons 10 111 _ (λ e. omega arith) (without_cons 10 110 _ (λ e. omega arith) (without_cons 10 101 [] (λ e. omega arith) (without_none 10))))
priced_without dear = without_cons 10 100 _ (λ e. omega arith) (without_cons 10 101 _ (λ e. omega arith) (without_cons 10 97 _ (λ e. omega arith) (without_cons 10 114 [] (λ e. omega arith) (without_none 10))))

-- a number does not start with a letter
not_word : (n x : ℕ) (bs : List ℕ) → 58 ≤ x → decimal n ≡ x ∷ bs → ⊥
not_word n x bs l e = omega (arith, ((decimal_is n).digits x (subst (λ z. Memᴰ x z) (sym e) (Memᴰ.head refl))).high)

priced_same : (p q : Price) → priced p ≡ priced q → p ≡ q
unfolding priced
priced_same (amount m) (amount n) e = ap amount (decimal_same m n e)
priced_same (amount m) none e = absurd (not_word m 110 _ (omega arith) e)
priced_same (amount m) dear e = absurd (not_word m 100 _ (omega arith) e)
priced_same none (amount n) e = absurd (not_word n 110 _ (omega arith) (sym e))
priced_same none none e = refl
priced_same none dear e = absurd (omega (arith, same_head e))
priced_same dear (amount n) e = absurd (not_word n 100 _ (omega arith) (sym e))
priced_same dear none e = absurd (omega (arith, same_head e))
priced_same dear dear e = refl

-- the fields one after the other
line_fields : (e : Entry) → line_of e ≡ decimal e.number ++ (44 ∷ ((flag e.empty ∷ []) ++ (44 ∷ (spaced e.first ++ (44 ∷ (spaced e.follow ++ (44 ∷ (priced e.cost ++ (10 ∷ [])))))))))
unfolding line_of between after
line_fields e = simp (append_assoc, append-nil)

-- two entries with the same fields
pub record SameFields (d e : Entry) : Type 0 where
  pub number : d.number ≡ e.number
  pub empty : d.empty ≡ e.empty
  pub first : d.first ≡ e.first
  pub follow : d.follow ≡ e.follow
  pub cost : d.cost ≡ e.cost

pub line_same : (d e : Entry) → line_of d ≡ line_of e → SameFields d e
line_same d e q =
    let a = split_one 44 (decimal d.number) (decimal e.number) _ _ (decimal_without 44 d.number (omega arith)) (decimal_without 44 e.number (omega arith)) (sym (line_fields d) ∙ q ∙ line_fields e) in
    let b = split_one 44 (flag d.empty ∷ []) (flag e.empty ∷ []) _ _ (flag_without d.empty) (flag_without e.empty) a.1 in
    let f = split_one 44 (spaced d.first) (spaced e.first) _ _ (spaced_without d.first) (spaced_without e.first) b.1 in
    let g = split_one 44 (spaced d.follow) (spaced e.follow) _ _ (spaced_without d.follow) (spaced_without e.follow) f.1 in
    let c = split_one 10 (priced d.cost) (priced e.cost) [] [] (priced_without d.cost) (priced_without e.cost) g.1 in
    record {
      number = decimal_same d.number e.number a.0;
      empty = flag_same d.empty e.empty b.0;
      first = spaced_same d.first e.first f.0;
      follow = spaced_same d.follow e.follow g.0;
      cost = priced_same d.cost e.cost c.0;
    }
