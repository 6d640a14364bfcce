-- A production's stretch, from what `production_len` answers.
use Rattle.grammar.specs.Lent.{outcome_of}
use mathlib.Core.Bool.{Bool, true, false}
use mathlib.Core.List.{List}
use mathlib.Core.Path.{◌≡◌, refl, sym, ap, ◌∙◌}
use Prim.Native.Nat.{ℕ, ◌+◌, ◌≤◌, ◌<◌}
use native.Mathlib.Omega.{arith}
use lib.Dec.{leb}
use lib.ListN.{length}
use lib.Seq.{length-slice}
use borrow.Author.Tests.{leb-false}
use Rattle.grammar.specs.Flat.{Flat, flat, at, stretch}
use Rattle.grammar.specs.Outcome.{Outcome, answers, refused, unless}
use Rattle.grammar.specs.Production.{check_of, length_of, production_of}
use Rattle.grammar.specs.Well.{WellFormed}
use Rattle.grammar.proofs.Forms.{prod_in, placed}
use Rattle.grammar.proofs.Lowest.{after_well, after_refused}
use Rattle.grammar.proofs.Outcomes.{not_both, refused_one, answers_one}
use Rattle.grammar.proofs.Well.{well}
use Rattle.boltmarrow.specs.Exports.{stretch_at, stretch_of}

-- a length was answered: the grammar is well-formed and the number is a production's
pub record Found (g : Flat) (p n : ℕ) : Type 0 where
  pub well_formed_law : WellFormed g
  pub is_prod : p < length g.owners
  pub is : production_of g p ≡ answers (stretch g p)
  pub long : n ≡ length (stretch g p)

found : (g : Flat) (p n : ℕ) → answers n ≡ length_of (production_of g p) → Found g p n
found g p n e = go (check_of g) refl
  where
    go : (o : Outcome (Unit {0})) → check_of g ≡ o → Found g p n
    go (refused m) k = absurd (not_both (e ∙ ap length_of (after_refused g (refused m) (unless (leb (length g.owners) p) 11 (answers (stretch g p))) m (sym k) refl)))
    go (answers u) k = at_prod (leb (length g.owners) p) refl
      where
        through : production_of g p ≡ unless (leb (length g.owners) p) 11 (answers (stretch g p))
        through = after_well g (answers tt) (unless (leb (length g.owners) p) 11 (answers (stretch g p))) (sym k) refl

        past : leb (length g.owners) p ≡ true → production_of g p ≡ refused 11
        past q = through ∙ rw q

        inside : leb (length g.owners) p ≡ false → production_of g p ≡ answers (stretch g p)
        inside q = through ∙ rw q

        at_prod : (b : Bool) → leb (length g.owners) p ≡ b → Found g p n
        at_prod true q = absurd (not_both (e ∙ ap length_of (past q)))
        at_prod false q = record {
          well_formed_law = well g k;
          is_prod = leb-false (length g.owners) p q;
          is = inside q;
          long = answers_one (e ∙ ap length_of (inside q));
        }

module _ (rules : ℕ) (owners starts symbols costs : List ℕ) (p : ℕ) where
  module _ (n : ℕ) (e : answers n ≡ length_of (production_of (flat rules owners starts symbols costs) p)) where
    it : Found (flat rules owners starts symbols costs) p n
    it = found (flat rules owners starts symbols costs) p n e

    pub start_in : (i : ℕ) → i ≡ p → i < length starts
    start_in i q = omega (arith, (prod_in (flat rules owners starts symbols costs) it.well_formed_law p it.is_prod).1)

    pub length_fits : n ≤ 16384
    length_fits =
        let h = placed (flat rules owners starts symbols costs) it.well_formed_law p it.is_prod (at owners p) (at starts p) (at starts (p + 1)) (record { owner = refl; from = refl; to = refl }) in
        omega (arith, it.long, length-slice (at starts p) (at starts (p + 1)) symbols h.fits, h.fits, it.well_formed_law.sizes.symbols_high)

    pub stretch_found : (i from : ℕ) → i ≡ p → from ≡ at starts i → record { refusal = 0; from = from; len = n } ≡ stretch_of (flat rules owners starts symbols costs) p
    stretch_found i from q f = rw (it.is, ← it.long, f, q)

  pub stretch_refused : (m x : ℕ) → refused m ≡ length_of (production_of (flat rules owners starts symbols costs) p) → x ≡ m → record { refusal = x; from = 0; len = 0 } ≡ stretch_of (flat rules owners starts symbols costs) p
  stretch_refused m x e k = go (production_of (flat rules owners starts symbols costs) p) e
    where
      go : (o : Outcome (List ℕ)) → refused m ≡ length_of o → record { refusal = x; from = 0; len = 0 } ≡ stretch_at (at starts p) o
      go (answers xs) q = absurd (not_both (sym q))
      go (refused j) q = rw (k, refused_one q)
