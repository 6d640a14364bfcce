-- What is plain: a visit makes its production quiet, no visit takes that back, and a round makes all plain ones so.
use mathlib.Core.Bool.{true, ◌&&◌, ◌||◌, false≢true}
use mathlib.Core.List.{[], ◌∷◌}
use mathlib.Core.Logic.{inl, inr}
use mathlib.Core.Path.{◌≡◌, refl, sym, ◌∙◌, ap, subst, fun_ext}
use Prim.Native.Nat.{ℕ, zero, suc}
use lib.Dec.{eqb}
use borrow.Author.Tests.{eqb-true}
use Rattle.theory.specs.Grammar.{tok, rul, Form, Grammar}
use Rattle.theory.specs.Visits.{Marks, nullable, first_of, first_visit}
use Rattle.theory.proofs.Bools.{and_split, and_join, or_split, or_left, or_right, bool_eq, eqb_same}
use Rattle.theory.proofs.Count.{Under}
use Rattle.theory.proofs.First.{both}
use Rattle.engine.specs.First.{plain}

-- what a plain form's walk finds is the same whatever is marked
plain_first : (α : Form) → plain α ≡ true → (m n : Marks) (t : ℕ) → first_of m α t ≡ first_of n α t
plain_first [] e m n t = refl
plain_first (tok s ∷ α) e m n t = refl
plain_first (rul r ∷ α) e m n t = absurd (false≢true e)

plain_empty : (α : Form) → plain α ≡ true → (m n : Marks) → nullable m.empty α ≡ nullable n.empty α
plain_empty [] e m n = refl
plain_empty (tok s ∷ α) e m n = refl
plain_empty (rul r ∷ α) e m n = absurd (false≢true e)

module _ (g : Grammar) where
  -- where the owner has what the walk finds, a visit changes nothing
  still : (p : ℕ) (m : Marks) → ((t : ℕ) → first_of m (g.body p) t ≡ true → m.first (g.owner p) t ≡ true) → (nullable m.empty (g.body p) ≡ true → m.empty (g.owner p) ≡ true) → first_visit g p m ≡ m
  still p m hf he i = record {
    first = fun_ext (λ r. fun_ext (λ t. bool_eq _ (m.first r t) (first_in r t) (λ e. or_left _ e))) i;
    empty = fun_ext (λ r. bool_eq _ (m.empty r) (empty_in r) (λ e. or_left _ e)) i;
  }
    where
      first_in : (r t : ℕ) → (m.first r t || (eqb r (g.owner p) && first_of m (g.body p) t)) ≡ true → m.first r t ≡ true
      first_in r t e = elim (or_split (m.first r t) _ e) [
        | inl k ↦ k
        | inr k ↦ let s = and_split (eqb r (g.owner p)) _ k in subst (λ z. m.first z t ≡ true) (sym (eqb-true r _ s.0)) (hf t s.1)
      ]

      empty_in : (r : ℕ) → (m.empty r || (eqb r (g.owner p) && nullable m.empty (g.body p))) ≡ true → m.empty r ≡ true
      empty_in r e = elim (or_split (m.empty r) _ e) [
        | inl k ↦ k
        | inr k ↦ let s = and_split (eqb r (g.owner p)) _ k in subst (λ z. m.empty z ≡ true) (sym (eqb-true r _ s.0)) (he s.1)
      ]

  -- what a visit that changes nothing tells
  has_first : (p : ℕ) (m : Marks) → first_visit g p m ≡ m → (t : ℕ) → first_of m (g.body p) t ≡ true → m.first (g.owner p) t ≡ true
  has_first p m q t e = sym (ap (λ z. z.first (g.owner p) t) q) ∙ or_right (m.first (g.owner p) t) (and_join (eqb_same (g.owner p)) e)

  has_empty : (p : ℕ) (m : Marks) → first_visit g p m ≡ m → nullable m.empty (g.body p) ≡ true → m.empty (g.owner p) ≡ true
  has_empty p m q e = sym (ap (λ z. z.empty (g.owner p)) q) ∙ or_right (m.empty (g.owner p)) (and_join (eqb_same (g.owner p)) e)

  module _ (p : ℕ) (k : plain (g.body p) ≡ true) where
    -- a plain production's visit makes it quiet
    pub visit_quiet : (m : Marks) → first_visit g p (first_visit g p m) ≡ first_visit g p m
    visit_quiet m = still p (first_visit g p m)
        (λ t e. or_right (m.first (g.owner p) t) (and_join (eqb_same (g.owner p)) (plain_first (g.body p) k m (first_visit g p m) t ∙ e)))
        (λ e. or_right (m.empty (g.owner p)) (and_join (eqb_same (g.owner p)) (plain_empty (g.body p) k m (first_visit g p m) ∙ e)))

    -- and it stays so where marks are added
    pub quiet_under : (m n : Marks) → Under (both m) (both n) → first_visit g p m ≡ m → first_visit g p n ≡ n
    quiet_under m n u q = still p n
        (λ t e. u (g.owner p) (suc t) (has_first p m q t (plain_first (g.body p) k m n t ∙ e)))
        (λ e. u (g.owner p) zero (has_empty p m q (plain_empty (g.body p) k m n ∙ e)))

  pub visit_under : (p : ℕ) (m : Marks) → Under (both m) (both (first_visit g p m))
  visit_under p m r zero e = or_left _ e
  visit_under p m r (suc t) e = or_left _ e
