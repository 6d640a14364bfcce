-- A step on lent words is a visit of the marks that they hold.
use mathlib.Core.Bool.{Bool, true, false, true≢false}
use mathlib.Core.Logic.{inl, inr}
use mathlib.Core.Path.{◌≡◌, refl, sym, ap, ap₂, ◌∙◌, subst, fun_ext}
use Prim.Native.Nat.{ℕ, zero, suc, ◌-◌, ◌*◌, ◌<◌}
use native.Mathlib.Decide.{ℕ_discrete}
use native.Mathlib.Omega.{arith}
use lib.Dec.{eqb}
use lib.ListN.{length}
use borrow.Author.Tests.{eqb-true}
use Rattle.theory.specs.Visits.{Marks, first_visit}
use Rattle.theory.proofs.Bools.{and_split, or_split}
use Rattle.theory.proofs.Count.{Inside, climb}
use Rattle.theory.proofs.Fills.{Filling}
use Rattle.theory.proofs.First.{both, first_of_all, first_marked}
use Rattle.grammar.specs.Flat.{Flat, at, denoted}
use Rattle.grammar.specs.Well.{WellFormed}
use Rattle.grammar.proofs.Denoted.{proper}
use Rattle.rows.specs.Tables.{Became, RowBecame}
use Rattle.rows.proofs.Row.{row_inside, row_self, row_one, row_view_law}
use Rattle.rows.proofs.Tables.{view_inside, became_self, became_one, became_view}
use Rattle.tables.specs.Sizes.{words}
use Rattle.tables.proofs.Stepping.{Stepping}
use Rattle.engine.specs.First.{Lent, lent, Held, Spared, marks_of, FirstBecame}

pub marks_same : (m n : Marks) → ((r t : ℕ) → m.first r t ≡ n.first r t) → ((r : ℕ) → m.empty r ≡ n.empty r) → m ≡ n
marks_same m n f e i = record { first = fun_ext (λ r. fun_ext (λ t. f r t)) i; empty = fun_ext e i }

-- one step leaves one result
pub first_became_one : (g : Flat) (p : ℕ) (l a b : Lent) → FirstBecame g p l a → FirstBecame g p l b → a ≡ b
first_became_one g p l a b s t = ap₂ lent
    (became_one g.rules (length g.costs) (words (length g.costs)) l.first a.first b.first _ s.first t.first)
    (row_one g.rules (words g.rules) l.empty a.empty b.empty _ s.empty t.empty)

-- the marks of words stand in R rows and T tokens
module _ (R T : ℕ) (l : Lent) where
  pub first_in : Inside R T (marks_of R T l).first
  unfolding marks_of
  first_in = view_inside R T (words T) l.first

  pub empty_in : (r : ℕ) → (marks_of R T l).empty r ≡ true → r < R
  unfolding marks_of
  empty_in r e = row_inside R (words R) l.empty r e

pub spared_same : (R T : ℕ) (a : Lent) → Spared R T a a
spared_same R T a = record { held = λ h. h; first = λ r t lr le lt. refl; empty = λ r le lt. refl }

pub spared_then : (R T : ℕ) (a b d : Lent) → Spared R T a b → Spared R T b d → Spared R T a d
spared_then R T a b d x y = record {
  held = λ h. y.held (x.held h);
  first = λ r t lr le lt. y.first r t lr le lt ∙ x.first r t lr le lt;
  empty = λ r le lt. y.empty r le lt ∙ x.empty r le lt;
}

module _ (g : Flat) (w : WellFormed g) where
  -- rounds of FIRST and EMPTY on lent words
  abbrev pub filling : Filling (first_visit (denoted g)) (marks_of g.rules (length g.costs)) (Spared g.rules (length g.costs)) (length g.owners)
  filling = record {
    Inv = λ m. Inside g.rules (length g.costs) (both m);
    top = g.rules * length g.costs;
    climb = climb (first_marked (denoted g) (proper g w));
    same = spared_same g.rules (length g.costs);
    then = spared_then g.rules (length g.costs);
  }

  -- no mark for eof is what the climb asks
  pub begun_inv : (l : Lent) → ((r : ℕ) → (marks_of g.rules (length g.costs) l).first r (length g.costs - 1) ≡ false) → Inside g.rules (length g.costs) (both (marks_of g.rules (length g.costs) l))
  begun_inv l b r zero e = (empty_in g.rules (length g.costs) l r e, omega (arith, w.sizes.tokens_low))
  begun_inv l b r (suc t) e =
      let i = first_in g.rules (length g.costs) l r t e in
      elim (ℕ_discrete t (length g.costs - 1)) [
        | yes q ↦ absurd (true≢false (sym e ∙ ap (λ z. (marks_of g.rules (length g.costs) l).first r z) q ∙ b r))
        | no q ↦ (i.0, omega arith)
      ]

  pub inv_no_eof : (l : Lent) → Inside g.rules (length g.costs) (both (marks_of g.rules (length g.costs) l)) → (r : ℕ) → (marks_of g.rules (length g.costs) l).first r (length g.costs - 1) ≡ false
  inv_no_eof l h r = go ((marks_of g.rules (length g.costs) l).first r (length g.costs - 1)) refl
    where
      go : (b : Bool) → (marks_of g.rules (length g.costs) l).first r (length g.costs - 1) ≡ b → (marks_of g.rules (length g.costs) l).first r (length g.costs - 1) ≡ false
      go true e = absurd (omega (arith, (h r (suc (length g.costs - 1)) e).1))
      go false e = e

  module _ (p : ℕ) (lt : p < length g.owners) (l : Lent) where
    abbrev m : Marks
    m = marks_of g.rules (length g.costs) l

    -- a visit of the words' marks stays in R rows and T tokens
    visit_in : Inside g.rules (length g.costs) (first_visit (denoted g) p m).first
    visit_in r t e = elim (or_split (m.first r t) _ e) [
      | inl k ↦ first_in g.rules (length g.costs) l r t k
      | inr k ↦
          let s = and_split (eqb r (at g.owners p)) _ k in (
            subst (λ z. z < g.rules) (sym (eqb-true r _ s.0)) (w.owner p lt),
            first_of_all (λ t. t < length g.costs) m (λ r t k. (first_in g.rules (length g.costs) l r t k).1) ((denoted g).body p) (λ t n. omega (arith, (proper g w).token p lt t n)) t s.1,
          )
    ]

    visit_empty_in : (r : ℕ) → (first_visit (denoted g) p m).empty r ≡ true → r < g.rules
    visit_empty_in r e = elim (or_split (m.empty r) _ e) [
      | inl k ↦ empty_in g.rules (length g.costs) l r k
      | inr k ↦ subst (λ z. z < g.rules) (sym (eqb-true r _ (and_split _ _ k).0)) (w.owner p lt)
    ]

    -- the marks that the words become are the visit's
    pub became_marks : (to : Lent) → FirstBecame g p l to → marks_of g.rules (length g.costs) to ≡ first_visit (denoted g) p m
    unfolding marks_of
    became_marks to s = marks_same _ _
        (λ r t. ap (λ z. z r t) (became_view g.rules (length g.costs) (words (length g.costs)) l.first to.first _ visit_in s.first))
        (λ r. ap (λ z. z r) (row_view_law g.rules (words g.rules) l.empty to.empty _ visit_empty_in s.empty))

    -- a step that leaves the marks leaves the words
    pub became_same : Held g.rules (length g.costs) l → first_visit (denoted g) p m ≡ m → FirstBecame g p l l
    unfolding marks_of
    became_same h e = record {
      first = subst (λ z. Became g.rules (length g.costs) (words (length g.costs)) l.first l.first z) (sym (ap (λ z. z.first) e)) (became_self g.rules (length g.costs) (words (length g.costs)) l.first h.first);
      empty = subst (λ z. RowBecame g.rules (words g.rules) l.empty l.empty z) (sym (ap (λ z. z.empty) e)) (row_self g.rules (words g.rules) l.empty h.empty);
    }

  pub became_spared : (p : ℕ) (l to : Lent) → FirstBecame g p l to → Spared g.rules (length g.costs) l to
  became_spared p l to s = record {
    held = λ h. record { first = s.first.sized; empty = s.empty.sized };
    first = s.first.spare;
    empty = λ r le lt. s.empty.spare 0 r (omega arith) le lt;
  }

  -- FIRST and EMPTY on lent words, step by step
  abbrev pub stepping : Stepping (first_visit (denoted g)) (marks_of g.rules (length g.costs)) (Spared g.rules (length g.costs)) (length g.owners) (Held g.rules (length g.costs)) (FirstBecame g)
  stepping = record {
    filling = filling;
    held = λ a b s. s.held;
    shows = λ p lt a b x. became_marks p lt a b x;
    spares = λ p lt a b x. became_spared p a b x;
    stays = λ p lt a h e. became_same p lt a h e;
    unique = λ p a b d x y. first_became_one g p a b d x y;
  }

-- tables of their lengths keep them
module _ {R T : ℕ} {a b : Lent} (h : Held R T a) (s : Spared R T a b) where
  pub first_long : length b.first ≡ length a.first
  first_long = (s.held h).first.len ∙ sym h.first.len

  pub empty_long : length b.empty ≡ length a.empty
  empty_long = (s.held h).empty.len ∙ sym h.empty.len
