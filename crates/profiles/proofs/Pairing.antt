-- The productions above one that has a clash, up to the first that clashes with it; and the least token that two rows share.
use mathlib.Core.Bool.{Bool, false, ◌&&◌, and-false}
use mathlib.Core.List.{List}
use mathlib.Core.Path.{◌≡◌, ◌∙◌, ap₂}
use Prim.Native.Nat.{ℕ, ◌*◌, ◌≤◌}
use native.Mathlib.Omega.{arith}
use lib.Dec.{ltb}
use lib.ListN.{length}
use borrow.Author.Tests.{lt-ltb, eq-eqb, ne_eqb}
use Rattle.theory.specs.Below.{some, FirstBelow}
use Rattle.theory.specs.Clashes.{row_of, pair_of}
use Rattle.theory.proofs.Below.{first_same}
use Rattle.grammar.specs.Flat.{Flat, at, denoted}
use Rattle.rows.specs.Marks.{mark, Rows}
use Rattle.engine.specs.First.{Lent as Firsts}
use Rattle.profiles.specs.Rows.{row_words, Rowable, marks_in, follow_in, RowIs, Pairable, LeastShared}
use Rattle.profiles.proofs.Turning.{shared_is}

module _ (g : Flat) (read : Firsts) (follow : List ℕ) (p : ℕ) (row : List ℕ) where
  -- with production q, above p
  module _ (q : ℕ) (ok : Pairable g read follow p row q) where
    pub pair_other : (at g.owners q ≡ at g.owners p → ⊥) → false ≡ pair_of (denoted g) (marks_in g read) (follow_in g follow) p q
    pair_other n = rw (ne_eqb (at g.owners q) (at g.owners p) n, and-false (ltb p q))

    pub pair_rows : Rowable g read follow q
    pair_rows = record { reads = ok.reads; is_prod = ok.is_prod }

    module _ (other : List ℕ) (ro : RowIs g read follow q other) where
      pub pair_place : Rows (row_words * 32) row_words row 0 other 0
      pair_place = record { fits = omega arith; from = omega (arith, ok.is.room); to = omega (arith, ro.room) }

      pub pair_is : at g.owners q ≡ at g.owners p → (r : Bool) → r ≡ some (row_words * 32) (λ t. mark row_words row 0 t && mark row_words other 0 t) → r ≡ pair_of (denoted g) (marks_in g read) (follow_in g follow) p q
      pair_is e r h =
          rw (lt-ltb p q ok.rises, eq-eqb (at g.owners q) (at g.owners p) e)
          (h ∙ shared_is g read follow p row other 0 (row_of (denoted g) (marks_in g read) (follow_in g follow) q) ok.reads.well.sizes.tokens_high ok.is (λ t lt. ro.marks 0 t (omega arith) lt))

  -- the least token that both may start with
  pub shared_least : (q : ℕ) (other : List ℕ) (t : ℕ) → Rowable g read follow p → RowIs g read follow p row → RowIs g read follow q other → t ≤ length g.costs
      → FirstBelow (λ k. mark row_words row 0 k && mark row_words other 0 k) (length g.costs) (ltb t (length g.costs)) t → LeastShared g read follow p q t
  shared_least q other t ok ro rq le b = record {
    upto = le;
    first = first_same _ _ (length g.costs) (ltb t (length g.costs)) t (λ k lk. ap₂ ◌&&◌ (ro.marks 0 k (omega arith) (omega (arith, ok.reads.well.sizes.tokens_high))) (rq.marks 0 k (omega arith) (omega (arith, ok.reads.well.sizes.tokens_high)))) b;
  }
