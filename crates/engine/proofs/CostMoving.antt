-- A step on lent words is a visit of what they hold: PRODUCTIVE's marks, COST's entries.
use mathlib.Core.Bool.{true, false≢true}
use mathlib.Core.List.{List}
use mathlib.Core.Logic.{inl, inr}
use mathlib.Core.Path.{◌≡◌, refl, sym, ap, ◌∙◌, subst, fun_ext}
use Prim.Native.Nat.{ℕ, zero, suc, ◌*◌, ◌≤◌, ◌<◌}
use native.Mathlib.Omega.{arith}
use lib.Dec.{eqb}
use lib.ListN.{length, get_or-eq_default}
use lib.Seq.{ext_get_or}
use borrow.Author.Tests.{eqb-true}
use Rattle.theory.specs.Visits.{productive_visit, cost_visit}
use Rattle.theory.proofs.Bools.{and_split, or_split}
use Rattle.theory.proofs.Count.{Inside, column, climb}
use Rattle.theory.proofs.CostRounds.{Fits, cost_climb}
use Rattle.theory.proofs.Fills.{Filling}
use Rattle.theory.proofs.Productive.{productive_marked}
use Rattle.grammar.specs.Flat.{Flat, at, denoted, price}
use Rattle.grammar.specs.Well.{WellFormed}
use Rattle.grammar.proofs.Denoted.{proper}
use Rattle.rows.specs.Tables.{Sized, RowBecame}
use Rattle.rows.proofs.Row.{row_inside, row_self, row_one, row_view_law}
use Rattle.tables.specs.Sizes.{words}
use Rattle.tables.proofs.Stepping.{Stepping}
use Rattle.engine.specs.Productive.{row_of, ProductiveBecame, RowSpared}
use Rattle.engine.specs.Cost.{costs_of, CostBecame, Long}

-- PRODUCTIVE
pub row_same : (R : ℕ) (a : List ℕ) → RowSpared R a a
row_same R a = record { held = λ h. h; spare = λ r le lt. refl }

pub row_then : (R : ℕ) (a b d : List ℕ) → RowSpared R a b → RowSpared R b d → RowSpared R a d
row_then R a b d x y = record { held = λ h. y.held (x.held h); spare = λ r le lt. y.spare r le lt ∙ x.spare r le lt }

-- a row of its length keeps it
pub row_long : {R : ℕ} {a b : List ℕ} → Sized 1 (words R) a → RowSpared R a b → length b ≡ length a
row_long h s = (s.held h).len ∙ sym h.len

-- the marks of words stand in one column of R rows
pub row_column : (R : ℕ) (ws : List ℕ) → Inside R 1 (column (row_of R ws))
row_column R ws r zero e = (row_inside R (words R) ws r e, omega arith)
row_column R ws r (suc t) e = absurd (false≢true e)

module _ (g : Flat) (w : WellFormed g) where
  pub visit_in : (p : ℕ) → p < length g.owners → (ws : List ℕ) (r : ℕ) → productive_visit (denoted g) p (row_of g.rules ws) r ≡ true → r < g.rules
  visit_in p lt ws r e = elim (or_split (row_of g.rules ws r) _ e) [
    | inl k ↦ row_inside g.rules (words g.rules) ws r k
    | inr k ↦ subst (λ z. z < g.rules) (sym (eqb-true r _ (and_split (eqb r (at g.owners p)) _ k).0)) (w.owner p lt)
  ]

  abbrev pub row_filling : Filling (productive_visit (denoted g)) (row_of g.rules) (RowSpared g.rules) (length g.owners)
  row_filling = record {
    Inv = λ m. Inside g.rules 1 (column m);
    top = g.rules * 1;
    climb = climb (productive_marked (denoted g) (proper g w));
    same = row_same g.rules;
    then = row_then g.rules;
  }

  abbrev pub row_stepping : Stepping (productive_visit (denoted g)) (row_of g.rules) (RowSpared g.rules) (length g.owners) (Sized 1 (words g.rules)) (ProductiveBecame g)
  row_stepping = record {
    filling = row_filling;
    held = λ a b s. s.held;
    shows = λ p lt a b x. row_view_law g.rules (words g.rules) a b _ (visit_in p lt a) x;
    spares = λ p lt a b x. record { held = λ h. x.sized; spare = λ r le lr. x.spare 0 r (omega arith) le lr };
    stays = λ p lt a h e. subst (λ z. RowBecame g.rules (words g.rules) a a z) (sym e) (row_self g.rules (words g.rules) a h);
    unique = λ p a b d x y. row_one g.rules (words g.rules) a b d _ x y;
  }

-- COST
pub costs_fit : (g : Flat) (cost : List ℕ) → length cost ≡ g.rules → ((r : ℕ) → costs_of cost r ≤ 65537) → Fits g.rules (costs_of cost)
unfolding costs_of
costs_fit g cost long cap = record { cap = cap; out = λ r le. get_or-eq_default cost 65537 (omega arith) }

-- numbers with the same entries are the same numbers
pub costs_words : (a b : List ℕ) → length a ≡ length b → ((r : ℕ) → costs_of a r ≡ costs_of b r) → a ≡ b
unfolding costs_of
costs_words a b e h = ext_get_or 65537 a b e (λ r lr. h r)

module _ (g : Flat) (w : WellFormed g) where
  abbrev pub cost_filling : Filling (cost_visit (denoted g) (price g)) costs_of Long (length g.owners)
  cost_filling = record {
    Inv = Fits g.rules;
    top = g.rules * 65537;
    climb = cost_climb (denoted g) (price g) (proper g w);
    same = λ a. refl;
    then = λ a b d x y. y ∙ x;
  }

  abbrev pub cost_stepping : Stepping (cost_visit (denoted g) (price g)) costs_of Long (length g.owners) (λ ws. length ws ≡ g.rules) (CostBecame g)
  cost_stepping = record {
    filling = cost_filling;
    held = λ a b s h. s ∙ h;
    shows = λ p lt a b x. fun_ext x.entries;
    spares = λ p lt a b x. x.long;
    stays = λ p lt a h e. record { long = refl; entries = λ r. ap (λ z. z r) (sym e) };
    unique = λ p a b d x y. costs_words b d (x.long ∙ sym y.long) (λ r. x.entries r ∙ sym (y.entries r));
  }
