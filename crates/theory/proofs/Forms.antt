-- The rules of a form: whether all are marked, and what they add to its sum.
use mathlib.Core.Bool.{true, false, true≢false}
use mathlib.Core.List.Memᴰ
use mathlib.Core.List.{[], ◌∷◌, Memᴰ}
use mathlib.Core.Logic.{inl, inr}
use mathlib.Core.Path.{◌≡◌, refl, ◌∙◌, ap}
use Prim.Native.Nat.{ℕ, ◌≤◌}
use native.Mathlib.Omega.{arith}
use Rattle.theory.specs.Grammar.{tok, rul, Form}
use Rattle.theory.specs.Visits.{Row, Costs, form_cost, all_marked}
use Rattle.theory.proofs.Bools.{and_split, and_join, tested}

-- marks more, rules more
pub all_mono : (m n : Row) → ((r : ℕ) → m r ≡ true → n r ≡ true) → (α : Form) → all_marked m α ≡ true → all_marked n α ≡ true
all_mono m n h [] e = refl
all_mono m n h (tok t ∷ α) e = all_mono m n h α e
all_mono m n h (rul r ∷ α) e = let s = and_split (m r) _ e in and_join (h r s.0) (all_mono m n h α s.1)

-- each rule in a form of marked rules is marked
pub all_at : (m : Row) (α : Form) → all_marked m α ≡ true → (r : ℕ) → Memᴰ (rul r) α → m r ≡ true
all_at m [] e r x = absurd (Memᴰ.not-nil x)
all_at m (tok t ∷ α) e r x = elim (Memᴰ.cases_cons x) [ inl d ↦ let z : ◌≡◌ {A = ℕ} 0 1 = cc in absurd (omega arith) | inr y ↦ all_at m α e r y ]
all_at m (rul q ∷ α) e r x =
    let s = and_split (m q) _ e in
    elim (Memᴰ.cases_cons x) [ inl d ↦ let i : r ≡ q = cc in ap m i ∙ s.0 | inr y ↦ all_at m α s.1 r y ]

-- a rule of a form that is not all marked
pub missing : (m : Row) (α : Form) → all_marked m α ≡ false → (q : ℕ) × Memᴰ (rul q) α × (m q ≡ false)
missing m [] e = absurd (true≢false e)
missing m (tok t ∷ α) e = let i = missing m α e in (i.0, Memᴰ.tail i.1, i.2)
missing m (rul r ∷ α) e = elim (tested (m r)) [
  | inl d ↦ let i = missing m α (simp d at e) in (i.0, Memᴰ.tail i.1, i.2)
  | inr d ↦ (r, Memᴰ.head refl, d)
]

-- a rule's entry is part of a form's sum
pub cost_part : (k : ℕ → ℕ) (c : Costs) (α : Form) (r : ℕ) → Memᴰ (rul r) α → c r ≤ form_cost k c α
cost_part k c [] r m = absurd (Memᴰ.not-nil m)
cost_part k c (tok t ∷ α) r m = elim (Memᴰ.cases_cons m) [ inl e ↦ let z : ◌≡◌ {A = ℕ} 0 1 = cc in absurd (omega arith) | inr n ↦ omega (arith, cost_part k c α r n) ]
cost_part k c (rul q ∷ α) r m = elim (Memᴰ.cases_cons m) [ inl e ↦ let d : r ≡ q = cc in omega (arith, ap c d) | inr n ↦ omega (arith, cost_part k c α r n) ]
