-- The productions from the last down: what stands above each of its rule, and the least clash so far.
use mathlib.Core.Bool.{Bool, true, false, ◌&&◌, ◌||◌, true≢false}
use mathlib.Core.List.{List}
use mathlib.Core.Path.{◌≡◌, sym, ◌∙◌, ap, ap₂, subst}
use Prim.Native.Nat.{ℕ, suc, ◌+◌, ◌*◌, ◌≤◌, ◌<◌}
use native.Mathlib.Decide.{dec_lt}
use native.Mathlib.Nat.{mul-le-mul_right}
use native.Mathlib.Omega.{arith}
use lib.Dec.{eqb, leb, ltb}
use lib.ListN.{length, replicate}
use borrow.Author.Tests.{lt-ltb, le-ltb, leb-true, le-leb}
use Rattle.theory.specs.Below.{some}
use Rattle.theory.specs.Clashes.{row_of, low_of, above_of}
use Rattle.theory.specs.Visits.{Table, Marks}
use Rattle.theory.proofs.Below.{some_cut}
use Rattle.theory.proofs.Bools.{and_split, and_join, eqb_turned}
use Rattle.theory.proofs.Clashes.{above_none, above_more, low_above, lowest_none, lowest_this, lowest_same}
use Rattle.theory.proofs.Profile.{row_past}
use Rattle.grammar.specs.Flat.{Flat, at, denoted}
use Rattle.rows.specs.Marks.{mark, Raised, Rows}
use Rattle.rows.proofs.Tables.{cleared_mark, cleared_row}
use Rattle.engine.specs.First.{Lent as Firsts}
use Rattle.profiles.specs.Rows.{row_words, Readable, marks_in, follow_in, RowIs, AboveIs, rule_in, lower_in, Turnable, Turns}
use Rattle.profiles.specs.declared.inner.Low.{Low}
use Rattle.std.specs.Prelude.{Option, None, Some, IsTrue, MatchOption}

-- marks that a production's row shares with those of a table h
pub shared_is : (g : Flat) (read : Firsts) (follow : List ℕ) (p : ℕ) (row ws : List ℕ) (o : ℕ) (h : ℕ → Bool) → length g.costs ≤ 512 → RowIs g read follow p row → ((t : ℕ) → t < row_words * 32 → mark row_words ws o t ≡ h t)
    → some (row_words * 32) (λ t. mark row_words row 0 t && mark row_words ws o t) ≡ some (suc (length g.costs)) (λ t. row_of (denoted g) (marks_in g read) (follow_in g follow) p t && h t)
shared_is g read follow p row ws o h few ro other =
    some_cut (row_words * 32) (suc (length g.costs)) _ _ (omega arith)
    (λ t lt. ap₂ ◌&&◌ (ro.marks 0 t (omega arith) (omega arith)) (other t (omega arith)))
    (λ t le lt. ap (λ b. b && mark row_words ws o t) (ro.marks 0 t (omega arith) lt ∙ row_past (denoted g) (marks_in g read) (follow_in g follow) p t le))

module _ (g : Flat) (read : Firsts) (follow : List ℕ) (p : ℕ) (low : Option Low) (above : List ℕ) (ok : Turnable g read follow p low above) (o : ℕ) (eo : o ≡ at g.owners p) (row : List ℕ) (ro : RowIs g read follow p row) where
  abbrev m : Marks
  m = marks_in g read

  abbrev f : Table
  f = follow_in g follow

  is_rule_law : o < g.rules
  is_rule_law = rw eo (ok.rows.reads.well.owner p ok.rows.is_prod)

  few : length g.costs ≤ 512
  few = ok.rows.reads.well.sizes.tokens_high

  inside : o * row_words + row_words ≤ length above
  inside = omega (arith, ok.stands.room, mul-le-mul_right {m = suc o} {n = g.rules} row_words is_rule_law)

  pub meet_place : Rows (row_words * 32) row_words row 0 above o
  meet_place = record { fits = omega arith; from = omega (arith, ro.room); to = inside }

  pub join_place : Rows (length g.costs + 1) row_words row 0 above o
  join_place = record { fits = omega (arith, few); from = omega (arith, ro.room); to = inside }

  module _ (hit : Bool) (eh : hit ≡ some (row_words * 32) (λ t. mark row_words row 0 t && mark row_words above o t)) where
    hit_low : hit ≡ low_of (denoted g) m f (at g.owners p) p
    hit_low =
        eh
        ∙ shared_is g read follow p row above o (above_of (denoted g) m f (suc p) (at g.owners p)) few ro (λ t lt. ok.stands.marks o t is_rule_law lt ∙ ap (λ z. above_of (denoted g) m f (suc p) z t) eo)
        ∙ sym (low_above (denoted g) m f p)

    module _ (new : Bool) (to : List ℕ) (j : Raised (length g.costs + 1) row_words above to o (mark row_words row 0) new) where
      cut : (t : ℕ) → t < row_words * 32 → Dec (t < length g.costs + 1) → (ltb t (length g.costs + 1) && mark row_words row 0 t) ≡ row_of (denoted g) m f p t
      cut t lt (yes l) = rw (lt-ltb t (length g.costs + 1) l) (ro.marks 0 t (omega arith) lt)
      cut t lt (no l) = rw (le-ltb t (length g.costs + 1) (omega arith)) (sym (row_past (denoted g) m f p t (omega arith)))

      stands : AboveIs g read follow p to
      stands = record {
        room = omega (arith, ok.stands.room, j.long);
        small = j.small;
        marks = λ r t lr lt.
            j.marks r t lt
            ∙ ap₂ (λ a b. a || b) (ok.stands.marks r t lr lt) (ap₂ ◌&&◌ (ap (eqb r) eo ∙ eqb_turned r (at g.owners p)) (cut t lt (dec_lt t (length g.costs + 1))))
            ∙ sym (above_more (denoted g) m f p r t ok.rows.is_prod);
      }

      -- `least`: no rule that is less has one
      least_is : (x : Option Low) (b : Bool) {P : Low → Type 0} → MatchOption x (IsTrue b) P → ((l : Low) → P l → b ≡ leb o l.rule) → b ≡ leb o (rule_in g.rules x)
      least_is None b e means = e ∙ sym (le-leb o g.rules (omega (arith, is_rule_law)))
      least_is (Some l) b e means = means l e

      module _ (least : Bool) {P : Low → Type 0} (told : MatchOption low (IsTrue least) P) (means : (l : Low) → P l → least ≡ leb o l.rule) where
        el : least ≡ leb o (rule_in g.rules low)
        el = least_is low least told means

        pub turns_this : (hit && least) ≡ true → Turns g read follow p (Some (record { rule = o; lower = p })) to
        turns_this k =
            let s = and_split hit _ k in
            record {
              stands = stands;
              least = record {
                lowest = rw eo (lowest_this (denoted g) m f p (rule_in g.rules low) (lower_in low) ok.least.lowest ok.rows.is_prod (sym hit_low ∙ s.0) (subst (λ z. z ≤ rule_in g.rules low) eo (leb-true o (rule_in g.rules low) (sym el ∙ s.1))));
                is_rule = is_rule_law;
              };
            }

        pub turns_same : (hit && least) ≡ false → Turns g read follow p low to
        turns_same k = record {
          stands = stands;
          least = record {
            lowest = lowest_same (denoted g) m f p (rule_in g.rules low) (lower_in low) ok.least.lowest (λ e le. true≢false (sym (and_join (hit_low ∙ e) (el ∙ le-leb o (rule_in g.rules low) (subst (λ z. z ≤ rule_in g.rules low) (sym eo) le))) ∙ k));
            is_rule = ok.least.is_rule;
          };
        }

-- before the first turn
pub turns_none : (g : Flat) (read : Firsts) (follow : List ℕ) → Readable g read follow → Turns g read follow (length g.owners) None (replicate 8704 0)
turns_none g read follow ok = record {
  stands = record {
    room = omega (arith, (cleared_row 8704).len, ok.well.sizes.rules_high);
    small = (cleared_row 8704).small;
    marks = λ r t lr lt. cleared_mark row_words 8704 r t ∙ sym (above_none (denoted g) (marks_in g read) (follow_in g follow) r t);
  };
  least = record { lowest = lowest_none (denoted g) (marks_in g read) (follow_in g follow); is_rule = tt };
}
