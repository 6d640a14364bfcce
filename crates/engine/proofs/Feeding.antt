-- What is fed: a visit feeds its production, no visit takes it back, and a fed production's visit is the joining at its end.
use mathlib.Core.Bool.{true, false, ◌&&◌, ◌||◌, and-false, or-false}
use mathlib.Core.List.{[], ◌∷◌}
use mathlib.Core.Logic.{inl, inr}
use mathlib.Core.Path.{◌≡◌, refl, sym, ◌∙◌, ap, subst, fun_ext}
use Prim.Native.Nat.{ℕ}
use lib.Dec.{eqb}
use borrow.Author.Tests.{eqb-true}
use Rattle.theory.specs.Grammar.{Sym, tok, rul, Form, Grammar}
use Rattle.theory.specs.Visits.{Table, Row, Marks, nullable, first_of, follow_back, follow_visit}
use Rattle.theory.proofs.Bools.{and_split, and_join, or_split, or_left, or_right, bool_eq, eqb_same}
use Rattle.theory.proofs.Count.{Under}
use Rattle.theory.proofs.Follow.{follow_back_under}
use Rattle.engine.specs.Follow.{Fed, tail_back}

module _ (m : Marks) where
  pub fed_under : (v : Form) (f h : Table) → Under f h → Fed m v f → Fed m v h
  fed_under [] f h u x = x
  fed_under (tok s ∷ v) f h u x = fed_under v f h u x
  fed_under (rul A ∷ v) f h u x = (λ t e. u A t (x.0 t e), fed_under v f h u x.1)

module _ (g : Grammar) (m : Marks) where
  -- a visit feeds its production
  pub fed_back : (o : ℕ) (v : Form) (f : Table) → Fed m v (follow_back m o v f)
  fed_back o [] f = tt
  fed_back o (tok s ∷ v) f = fed_back o v f
  fed_back o (rul A ∷ v) f = (
    λ t e. or_right (follow_back m o v f A t) (and_join (eqb_same A) (or_right (nullable m.empty v && follow_back m o v f o t) e)),
    fed_under m v (follow_back m o v f) _ (λ r t e. or_left _ e) (fed_back o v f),
  )

  -- a fed production's visit
  pub back_tail : (o : ℕ) (v : Form) (f : Table) → Fed m v f → follow_back m o v f ≡ tail_back m.empty o v f
  back_tail o [] f x = refl
  back_tail o (tok s ∷ v) f x = back_tail o v f x
  back_tail o (rul A ∷ v) f x =
      same ∙ ap (λ (h : Table). λ r t. h r t || (eqb r A && (nullable m.empty v && h o t))) (back_tail o v f x.1)
    where
      b : Table
      b = follow_back m o v f

      drop_ahead : (r t : ℕ) → (b r t || (eqb r A && ((nullable m.empty v && b o t) || first_of m v t))) ≡ (b r t || (eqb r A && (nullable m.empty v && b o t)))
      drop_ahead r t = bool_eq _ _ (λ e. elim (or_split (b r t) _ e) [
        | inl k ↦ or_left _ k
        | inr k ↦
            let s = and_split (eqb r A) _ k in
            elim (or_split (nullable m.empty v && b o t) _ s.1) [
              | inl n ↦ or_right (b r t) (and_join s.0 n)
              | inr n ↦ or_left _ (subst (λ z. b z t ≡ true) (sym (eqb-true r A s.0)) (follow_back_under g m o v f A t (x.0 t n)))
            ]
      ]) (λ e. elim (or_split (b r t) _ e) [
        | inl k ↦ or_left _ k
        | inr k ↦ let s = and_split (eqb r A) _ k in or_right (b r t) (and_join s.0 (or_left _ s.1))
      ])

      same : follow_back m o (rul A ∷ v) f ≡ (λ r t. b r t || (eqb r A && (nullable m.empty v && b o t)))
      same = fun_ext (λ r. fun_ext (λ t. drop_ahead r t))

-- over any reached row
module _ (g : Grammar) (m : Marks) (s : Row) where
  -- a visit of a reached rule's production feeds it
  pub visit_feeds : (p : ℕ) (f : Table) → s (g.owner p) ≡ true → Fed m (g.body p) (follow_visit g m s p f)
  visit_feeds p f c = rw c (fed_back g m (g.owner p) (g.body p) f)

-- once not all from here on vanishes, nothing more is joined
pub tail_past : (e : Row) (o : ℕ) (x : Sym) (v : Form) (f : Table) → nullable e v ≡ false → tail_back e o (x ∷ v) f ≡ tail_back e o v f
tail_past e o (tok s) v f n = refl
tail_past e o (rul A) v f n = fun_ext (λ r. fun_ext (λ t. rw (n, and-false (eqb r A)) (or-false (tail_back e o v f r t))))

pub null_past : (e : Row) (x : Sym) (v : Form) → nullable e v ≡ false → nullable e (x ∷ v) ≡ false
null_past e (tok s) v n = refl
null_past e (rul A) v n = rw n (and-false (e A))
