-- A table grown row by row, and the walk's step at a rule symbol.
use mathlib.Core.Bool.{Bool, true, false, ◌&&◌, ◌||◌, false≢true}
use mathlib.Core.List.{List, ◌∷◌}
use mathlib.Core.Logic.{inl, inr}
use mathlib.Core.Path.{◌≡◌, refl, sym, ap, ◌∙◌}
use Prim.Native.Nat.{ℕ, ◌*◌, ◌≤◌, ◌<◌}
use native.Mathlib.Omega.{arith}
use lib.Dec.{eqb}
use Rattle.theory.specs.Grammar.{rul, Form}
use Rattle.theory.specs.Visits.{Table, Marks, follow_back}
use Rattle.theory.proofs.Bools.{or_split, or_none, or_left}
use Rattle.rows.specs.Marks.{mark, Raised}
use Rattle.rows.specs.Tables.{Sized, view, Became}
use Rattle.rows.proofs.Tables.{view_mark, became_self, became_as, raised_became}
use Rattle.tables.specs.Sizes.{words}
use Rattle.engine.specs.Follow.{table_of, New, Grown, Carries}

module _ {R T W : ℕ} where
  -- only the marks of R rows and T tokens matter
  pub grown_as : {ws to : List ℕ} {f : Table} {new : Bool} (h : Table) → ((r t : ℕ) → r < R → t < T → f r t ≡ h r t) → Grown R T W ws to f new → Grown R T W ws to h new
  grown_as {ws} {to} {f} h e x = record {
    became = became_as R T W ws to f h e x.became;
    under = λ r t lr lt k. sym (e r t lr lt) ∙ x.under r t lr lt k;
    told = x.told;
    still = x.still;
  }

  -- nothing
  pub grown_none : (ws : List ℕ) → Sized R W ws → Grown R T W ws ws (view R T W ws) false
  grown_none ws s = record {
    became = became_self R T W ws s;
    under = λ r t lr lt k. view_mark R T W ws r t lr lt ∙ k;
    told = λ e. absurd (false≢true e);
    still = λ e. refl;
  }

  -- a row raised in a table that has grown
  pub grown_raise : {ws mid to : List ℕ} {f : Table} {o : ℕ} {h : ℕ → Bool} {a b : Bool} → T ≤ W * 32 → o < R → Grown R T W ws mid f a → Raised T W mid to o h b → Grown R T W ws to (λ r t. f r t || (eqb r o && h t)) (a || b)
  grown_raise {ws} {mid} {to} {f} {o} {h} {a} {b} wide lo x y = record {
    became = record {
      sized = z.sized;
      marks = at;
      spare = λ r t lr le lt. z.spare r t lr le lt ∙ x.became.spare r t lr le lt;
    };
    under = λ r t lr lt k. or_left (eqb r o && h t) (x.under r t lr lt k);
    told = λ e. elim (or_split a b e) [ inl k ↦ before (x.told k) | inr k ↦ after k ];
    still = λ e. y.still (or_none a b e).1 ∙ x.still (or_none a b e).0;
  }
    where
      z : Became R T W mid to (λ r t. view R T W mid r t || (eqb r o && h t))
      z = raised_became R T W mid to o h b wide y x.became.sized

      at : (r t : ℕ) → r < R → t < T → mark W to r t ≡ (f r t || (eqb r o && h t))
      at r t lr lt = z.marks r t lr lt ∙ ap (λ u. u || (eqb r o && h t)) (view_mark R T W mid r t lr lt ∙ x.became.marks r t lr lt)

      not_yet : (t : ℕ) → t < T → (c : Bool) → mark W ws o t ≡ c → mark W mid o t ≡ false → mark W ws o t ≡ false
      not_yet t lt true e k = absurd (false≢true (sym k ∙ x.became.marks o t lo lt ∙ x.under o t lo lt e))
      not_yet t lt false e k = e

      before : New R T W ws mid → New R T W ws to
      before w = record {
        row = w.row;
        is_row = w.is_row;
        fresh = record {
          at = w.fresh.at;
          below = w.fresh.below;
          was = w.fresh.was;
          is = at w.row w.fresh.at w.is_row w.fresh.below ∙ or_left _ (sym (x.became.marks w.row w.fresh.at w.is_row w.fresh.below) ∙ w.fresh.is);
        };
      }

      after : b ≡ true → New R T W ws to
      after k = let w = y.told k in record {
        row = o;
        is_row = lo;
        fresh = record { at = w.at; below = w.below; was = not_yet w.at w.below (mark W ws o w.at) refl w.was; is = w.is };
      }

-- at a rule symbol: its row is raised by the owner's as it is now, if what follows vanishes, and by what is carried
pub grown_rule : (R T : ℕ) (m : Marks) (o : ℕ) → o < R → (ws : List ℕ) (a : ℕ) (v : Form) → a < R → (mid to ahead : List ℕ) (null new b : Bool)
    → Grown R T (words T) ws mid (follow_back m o v (table_of R T ws)) new → Carries T m v ahead null
    → Raised T (words T) mid to a (λ t. (null && mark (words T) mid o t) || mark (words T) ahead 0 t) b
    → Grown R T (words T) ws to (follow_back m o (rul a ∷ v) (table_of R T ws)) (new || b)
grown_rule R T m o lo ws a v la mid to ahead null new b x c y =
    grown_as (follow_back m o (rul a ∷ v) (table_of R T ws))
    (λ r t lr lt. rw (x.became.marks o t lo lt, c.marks t lt, c.vanishes))
    (grown_raise (omega arith) la x y)
