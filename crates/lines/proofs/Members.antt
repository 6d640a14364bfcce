-- The numbers below n that pass: these and no others, rising.
use mathlib.Core.Bool.{Bool, true, false}
use mathlib.Core.List.Memᴰ
use mathlib.Core.List.{List, [], ◌∷◌, ◌++◌, Memᴰ}
use mathlib.Core.Logic.{◌↔◌, ⊎_elim}
use mathlib.Core.Path.{◌≡◌, refl, sym, ap, ◌∙◌, subst}
use Prim.Native.Nat.{ℕ, zero, suc, ◌<◌}
use native.Mathlib.Nat.{not-suc-le-zero, eq-or-lt_of_le, le_of_suc-le-suc}
use native.Mathlib.Omega.{arith}
use Rattle.lines.specs.Text.{members, Rising, none, next}
use Rattle.lines.proofs.Sets.{members_more}

-- one number more, above all before it
rising_more : (ns : List ℕ) (x : ℕ) → ((m : ℕ) → Memᴰ m ns → m < x) → Rising ns → Rising (ns ++ (x ∷ []))
rising_more [] x h r = next (λ m k. absurd (Memᴰ.not-nil k)) none
rising_more (n ∷ ns) x h (next b r) = next (λ m k. ⊎_elim (λ q. b m q) (λ q. let e : m ≡ x = Memᴰ.eq_of_singleton q in subst (λ z. n < z) (sym e) (h n (Memᴰ.head refl))) (Memᴰ.append_cases ns k)) (rising_more ns x (λ m k. h m (Memᴰ.tail k)) r)

module _ (f : ℕ → Bool) where
  members_none : members 0 f ≡ []
  unfolding members
  members_none = refl

  in_more : (n t : ℕ) (b : Bool) → f n ≡ b → (Memᴰ t (members n f) → (t < n) × (f t ≡ true)) → Memᴰ t (members (suc n) f) → (t < suc n) × (f t ≡ true)
  in_more n t true e h m =
      ⊎_elim (λ k. let q = h k in (let z : t < suc n = omega (arith, q.0) in z, q.1)) (λ k. let q = Memᴰ.eq_of_singleton k in (let z : t < suc n = omega (arith, q) in z, ap f q ∙ e))
      (Memᴰ.append_cases (members n f) (subst (λ ns. Memᴰ t ns) (members_more f n true e) m))
  in_more n t false e h m = let k = h (subst (λ ns. Memᴰ t ns) (members_more f n false e) m) in (let z : t < suc n = omega (arith, k.0) in z, k.1)

  pub passes : (n t : ℕ) → Memᴰ t (members n f) → (t < n) × (f t ≡ true)
  passes zero t m = absurd (Memᴰ.not-nil (subst (λ ns. Memᴰ t ns) members_none m))
  passes (suc n) t m = in_more n t (f n) refl (passes n t) m

  -- what stood among fewer numbers stands among more
  stays : (n t : ℕ) (b : Bool) → f n ≡ b → Memᴰ t (members n f) → Memᴰ t (members (suc n) f)
  stays n t true e m = subst (λ ns. Memᴰ t ns) (sym (members_more f n true e)) (Memᴰ.append_left (n ∷ []) m)
  stays n t false e m = subst (λ ns. Memᴰ t ns) (sym (members_more f n false e)) m

  pub held : (n t : ℕ) → t < n → f t ≡ true → Memᴰ t (members n f)
  held zero t l e = absurd (not-suc-le-zero l)
  held (suc n) t l e = ⊎_elim (λ q. subst (λ ns. Memᴰ t ns) (sym (members_more f n true (ap f (sym q) ∙ e))) (Memᴰ.append_right (members n f) (Memᴰ.head q))) (λ q. stays n t (f n) refl (held n t q e)) (eq-or-lt_of_le (le_of_suc-le-suc l))

  rise_more : (n : ℕ) (b : Bool) → f n ≡ b → Rising (members n f) → Rising (members (suc n) f)
  rise_more n true e r = subst Rising (sym (members_more f n true e)) (rising_more (members n f) n (λ m k. (passes n m k).0) r)
  rise_more n false e r = subst Rising (sym (members_more f n false e)) r

  -- the numbers below n that pass, and no others
  pub members_are : (n t : ℕ) → Memᴰ t (members n f) ↔ ((t < n) × (f t ≡ true))
  members_are n t = (passes n t, λ h. held n t h.0 h.1)

  pub members_rise : (n : ℕ) → Rising (members n f)
  members_rise zero = subst Rising (sym members_none) none
  members_rise (suc n) = rise_more n (f n) refl (members_rise n)
