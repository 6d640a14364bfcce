-- The entry of a call: its refusals as one list, 1 to 6 and then its own, and what is known where none of them is due.
use mathlib.Core.Bool.{Bool, true, false, ◌||◌}
use mathlib.Core.List.{List, [], ◌∷◌, ◌++◌}
use mathlib.Core.Path.{◌≡◌, refl, sym, ◌∙◌, ap}
use Prim.Native.Nat.{ℕ}
use Rattle.grammar.specs.Flat.{Flat}
use Rattle.grammar.specs.Outcome.{Outcome, answers, refused, unless}
use Rattle.grammar.specs.Production.{check_of, or_due}
use Rattle.grammar.specs.Refusals.{unless_due}
use Rattle.grammar.specs.Well.{WellFormed}
use Rattle.grammar.proofs.Lowest.{after_well, after_refused}
use Rattle.grammar.proofs.Outcomes.{not_both, refused_one}
use Rattle.grammar.proofs.Well.{well}

-- `unless`
pub unless_due_law : (c : Outcome (Unit {0})) (due : Bool) (n : ℕ) → c ≡ answers tt → due ≡ true → refused n ≡ or_due c due n
unless_due_law c due n e d = rw (e, d)

-- a call's own refusals in order, each with whether it is due
abbrev pub ends : {A : Type 0} → List (Bool × ℕ) → Outcome A → Outcome A
ends [] x = x
ends (d ∷ ds) x = unless d.0 d.1 (ends ds x)

-- none of them is due
abbrev pub NoneOf : List (Bool × ℕ) → Type 0
NoneOf [] = Unit {0}
NoneOf (d ∷ ds) = (d.0 ≡ false) × NoneOf ds

ends_more : (b : Bool) (n : ℕ) (ds : List (Bool × ℕ)) → or_due (ends ds (answers tt)) b n ≡ ends (ds ++ ((b, n) ∷ [])) (answers tt)
ends_more b n [] = refl
ends_more b n ((true, m) ∷ ds) = refl
ends_more b n ((false, m) ∷ ds) = ends_more b n ds

ends_none : (ds : List (Bool × ℕ)) → ends ds (answers (tt {0})) ≡ answers tt → NoneOf ds
ends_none [] e = tt
ends_none ((true, m) ∷ ds) e = absurd (not_both (sym e))
ends_none ((false, m) ∷ ds) e = (refl, ends_none ds e)

ends_refused : {A : Type 0} (x : Outcome A) (n : ℕ) (ds : List (Bool × ℕ)) → ends ds (answers (tt {0})) ≡ refused n → ends ds x ≡ refused n
ends_refused x n [] e = absurd (not_both e)
ends_refused x n ((true, m) ∷ ds) e = let q : m ≡ n = cc in ap refused q
ends_refused x n ((false, m) ∷ ds) e = ends_refused x n ds e

ends_goes : {A : Type 0} (x : Outcome A) (ds : List (Bool × ℕ)) → NoneOf ds → ends ds x ≡ x
ends_goes x [] h = refl
ends_goes x ((true, m) ∷ ds) h = absurd (not_both {A = Unit {0}} {x = tt} {n = 0} (ap (λ (b : Bool). unless b 0 (answers tt)) (sym h.0)))
ends_goes x ((false, m) ∷ ds) h = ends_goes x ds h.1

module _ (g : Flat) (ds : List (Bool × ℕ)) where
  -- with one refusal more
  pub also : (o r : Outcome (Unit {0})) (b : Bool) (n : ℕ) → o ≡ unless_due g (ends ds (answers tt)) → r ≡ or_due o b n → r ≡ unless_due g (ends (ds ++ ((b, n) ∷ [])) (answers tt))
  also o r b n is e = e ∙ ap (λ z. or_due z b n) is ∙ go (check_of g) refl
    where
      go : (x : Outcome (Unit {0})) → check_of g ≡ x → or_due (unless_due g (ends ds (answers tt))) b n ≡ unless_due g (ends (ds ++ ((b, n) ∷ [])) (answers tt))
      go (answers tt) q = ap (λ z. or_due z b n) (after_well g (answers tt) _ (sym q) refl) ∙ ends_more b n ds ∙ sym (after_well g (answers tt) _ (sym q) refl)
      go (refused m) q = ap (λ z. or_due z b n) (after_refused g (refused m) _ m (sym q) refl) ∙ sym (after_refused g (refused m) _ m (sym q) refl)

  -- where none is due: the grammar is well-formed, and none of the call's own is
  pub none_due : unless_due g (ends ds (answers (tt {0}))) ≡ answers tt → WellFormed g × NoneOf ds
  none_due d = go (check_of g) refl
    where
      go : (o : Outcome (Unit {0})) → check_of g ≡ o → WellFormed g × NoneOf ds
      go (answers tt) q = (well g q, ends_none ds (sym (after_well g (answers tt) _ (sym q) refl) ∙ d))
      go (refused m) q = absurd (not_both (sym d ∙ after_refused g (refused m) _ m (sym q) refl))

  -- the same of a call that answers otherwise than done
  module _ {A : Type 0} (x : Outcome A) where
    pub due_refused : (n : ℕ) → unless_due g (ends ds (answers (tt {0}))) ≡ refused n → unless_due g (ends ds x) ≡ refused n
    due_refused n d = go (check_of g) refl
      where
        go : (o : Outcome (Unit {0})) → check_of g ≡ o → unless_due g (ends ds x) ≡ refused n
        go (answers tt) q = after_well g (answers tt) _ (sym q) refl ∙ ends_refused x n ds (sym (after_well g (answers tt) _ (sym q) refl) ∙ d)
        go (refused m) q = after_refused g (refused m) _ m (sym q) refl ∙ ap refused (refused_one (sym (after_refused g (refused m) (ends ds (answers (tt {0}))) m (sym q) refl) ∙ d))

    pub due_goes : unless_due g (ends ds (answers (tt {0}))) ≡ answers tt → unless_due g (ends ds x) ≡ x
    due_goes d = let k = none_due d in go (check_of g) refl k.1
      where
        go : (o : Outcome (Unit {0})) → check_of g ≡ o → NoneOf ds → unless_due g (ends ds x) ≡ x
        go (answers tt) q h = after_well g (answers tt) _ (sym q) refl ∙ ends_goes x ds h
        go (refused m) q h = absurd (not_both (sym d ∙ after_refused g (refused m) _ m (sym q) refl))

-- two refusals of one number are one
pub unless_or : {A : Type 0} (a b : Bool) (n : ℕ) (x : Outcome A) → unless a n (unless b n x) ≡ unless (a || b) n x
unless_or true b n x = refl
unless_or false b n x = refl
