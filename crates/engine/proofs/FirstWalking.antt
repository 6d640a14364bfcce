-- The walk, turn by turn: what row o has got so far, and what is left of the stretch.
use mathlib.Core.Bool.{Bool, true, false, not, ◌||◌, or-false, or_assoc}
use mathlib.Core.List.{List, ◌∷◌}
use mathlib.Core.Path.{◌≡◌, refl, sym, ap, ◌∙◌}
use Prim.Native.Nat.{ℕ, ◌+◌, ◌-◌, ◌*◌, ◌/◌, ◌≤◌, ◌<◌}
use native.Mathlib.Nat.{add-zero}
use native.Mathlib.Omega.{arith}
use lib.Dec.{eqb}
use lib.ListN.{length}
use borrow.Author.Tests.{not-true, not-false}
use Rattle.theory.specs.Grammar.{tok, rul}
use Rattle.theory.specs.Visits.{first_of, nullable}
use Rattle.theory.proofs.Bools.{eqb_turned}
use Rattle.grammar.specs.Flat.{at, form}
use Rattle.grammar.specs.Well.{SymbolFits}
use Rattle.rows.specs.Marks.{place, mark, marked, Small, Raised, Rows}
use Rattle.rows.proofs.Marks.{row_in, row_whole}
use Rattle.rows.proofs.Raise.{raised_as, raised_none, raised_then, raised_join, raised_mark}
use Rattle.rows.proofs.Tables.{view_mark}
use Rattle.tables.specs.Sizes.{words}
use Rattle.engine.specs.First.{Lent, marks_of, Walkable, Walks}
use Rattle.engine.proofs.Spans.{span, span_done, span_in, span_is, span_token, span_rule}

-- the marks are the words'
module _ (R T : ℕ) (l : Lent) where
  pub first_mark : (r t : ℕ) → r < R → t < T → (marks_of R T l).first r t ≡ mark (words T) l.first r t
  unfolding marks_of
  first_mark r t lr lt = view_mark R T (words T) l.first r t lr lt

  pub empty_mark : (r : ℕ) → r < R → (marks_of R T l).empty r ≡ mark (words R) l.empty 0 r
  unfolding marks_of
  empty_mark r lr = view_mark 1 R (words R) l.empty 0 r (omega arith) lr

-- before number k of `symbols[a..e]`: row o of the words ws is raised by `got`; FIRST of the stretch is that and FIRST of what is left, and the stretch vanishes if what is left does
pub record Walking (R T : ℕ) (symbols : List ℕ) (a e o : ℕ) (l : Lent) (ws now : List ℕ) (new : Bool) (k : ℕ) : Type 0 where
  pub high : a + k ≤ e
  pub room : o * words T + words T ≤ length ws
  pub got : ℕ → Bool
  pub raised : Raised T (words T) ws now o got new
  pub rest : (t : ℕ) → t < T → first_of (marks_of R T l) (form symbols a e) t ≡ (got t || first_of (marks_of R T l) (form symbols (a + k) e) t)
  pub null : nullable (marks_of R T l).empty (form symbols a e) ≡ nullable (marks_of R T l).empty (form symbols (a + k) e)

module _ (R T : ℕ) (symbols : List ℕ) (a e o : ℕ) (l : Lent) (ok : Walkable R T symbols a e o l) where
  wide : T ≤ words T * 32
  wide = omega arith

  pub walk_start : (ws : List ℕ) → o * words T + words T ≤ length ws → Small ws → Walking R T symbols a e o l ws ws false 0
  walk_start ws room small = record {
    high = omega (arith, ok.rise);
    room = room;
    got = λ t. false;
    raised = raised_none (λ t. false) small (λ t lt. refl);
    rest = λ t lt. rw (add-zero a);
    null = rw (add-zero a);
  }

  -- over FIRST itself
  pub own_start : Walking R T symbols a e o l l.first l.first false 0
  own_start = walk_start l.first (row_whole R (words T) l.first o ok.held.first.len ok.owner) ok.held.first.small

  module _ (ws now : List ℕ) (new : Bool) (k : ℕ) (w : Walking R T symbols a e o l ws now new k) where
    pub walk_end : length (span symbols a e) ≤ k → Walks R T symbols a e o l ws new true now
    walk_end h = record {
      raised = raised_as _ (λ t lt. sym (w.rest t lt ∙ rw (span_done symbols a e ok.fits k w.high h) (or-false (w.got t)))) w.raised;
      passed = sym (w.null ∙ rw (span_done symbols a e ok.fits k w.high h));
    }

    module _ (s : ℕ) (is : s ≡ at (span symbols a e) k) (h : k < length (span symbols a e)) where
      fits : SymbolFits R T s
      fits = rw (span_is symbols a e ok.fits k h s is) (ok.symbol (a + k) (omega (arith, ok.fits, span_in symbols a e ok.fits k h)))

      room : o * words T + words T ≤ length now
      room = omega (arith, w.room, w.raised.long)

      -- a token
      module _ (low : s < 32768) where
        left_token : form symbols (a + k) e ≡ tok s ∷ form symbols (a + (k + 1)) e
        left_token = span_token symbols a e ok.fits k h s is low

        token_below : s < T
        token_below = omega (arith, fits.token low)

        pub token_place : (wd x : ℕ) → wd ≡ words T → x ≡ s → place wd o x < length now
        token_place wd x ew ex = rw (ew, ex) (let q : s / 32 < words T = omega (arith, token_below) in omega (arith, room))

        pub walk_token : (wd x : ℕ) (b : Bool) (to : List ℕ) → wd ≡ words T → x ≡ s → b ≡ not (mark wd now o x) → to ≡ marked wd now o x → Walks R T symbols a e o l ws (new || b) false to
        walk_token wd x b to ew ex eb et = record {
          raised = raised_as _ (λ t lt. sym (w.rest t lt ∙ rw (left_token, eqb_turned s t)))
              (raised_then {g = λ u. eqb u s} wide w.raised (rw (eb, et, ew, ex) (raised_mark T (words T) now o s wide w.raised.small (token_place (words T) s refl refl) token_below)));
          passed = sym (w.null ∙ rw left_token);
        }

      -- a rule
      module _ (high : 32768 ≤ s) where
        left_rule : form symbols (a + k) e ≡ rul (s - 32768) ∷ form symbols (a + (k + 1)) e
        left_rule = span_rule symbols a e ok.fits k h s is high

        rule_below : s - 32768 < R
        rule_below = omega (arith, fits.rule high)

        pub first_place : (wd x : ℕ) → wd ≡ words T → x ≡ s - 32768 → Rows T wd l.first x now o
        first_place wd x ew ex = rw (ew, ex) (record { fits = wide; from = row_whole R (words T) l.first (s - 32768) ok.held.first.len rule_below; to = room })

        pub empty_place : (rd x : ℕ) → rd ≡ words R → x ≡ s - 32768 → place rd 0 x < length l.empty
        empty_place rd x er ex = rw (er, ex) (row_in 1 R (words R) l.empty 0 (s - 32768) (omega arith) ok.held.empty.len (omega arith) rule_below)

        -- row o has got the rule's FIRST too
        module _ (wd rd x : ℕ) (b m : Bool) (to : List ℕ) (ew : wd ≡ words T) (er : rd ≡ words R) (ex : x ≡ s - 32768) (on : Raised T wd ws to o (λ t. w.got t || mark wd l.first x t) (new || b)) (em : m ≡ mark rd l.empty 0 x) where
          on_rule : Raised T (words T) ws to o (λ t. w.got t || mark (words T) l.first (s - 32768) t) (new || b)
          on_rule = rw (ew, ex) at on

          is_empty : (marks_of R T l).empty (s - 32768) ≡ m
          is_empty = empty_mark R T l (s - 32768) rule_below ∙ sym (em ∙ rw (er, ex))

          pub walk_on : not m ≡ false → Walking R T symbols a e o l ws to (new || b) (k + 1)
          walk_on t = record {
            high = omega (arith, span_in symbols a e ok.fits k h);
            room = w.room;
            got = λ t. w.got t || mark (words T) l.first (s - 32768) t;
            raised = on_rule;
            rest = λ u lu. w.rest u lu ∙ rw (left_rule, is_empty ∙ not-false m t, first_mark R T l (s - 32768) u rule_below lu) (sym (or_assoc (w.got u) (mark (words T) l.first (s - 32768) u) _));
            null = w.null ∙ rw (left_rule, is_empty ∙ not-false m t);
          }

          pub walk_stop : not m ≡ true → Walks R T symbols a e o l ws (new || b) false to
          walk_stop t = record {
            raised = raised_as _ (λ u lu. sym (w.rest u lu ∙ rw (left_rule, is_empty ∙ not-true m t, first_mark R T l (s - 32768) u rule_below lu) (ap (λ (z : Bool). w.got u || z) (or-false (mark (words T) l.first (s - 32768) u))))) on_rule;
            passed = sym (w.null ∙ rw (left_rule, is_empty ∙ not-true m t));
          }

  -- a rule's FIRST joined to the row, from FIRST beside it
  pub joined_from : (ws now : List ℕ) (new : Bool) (k : ℕ) (w : Walking R T symbols a e o l ws now new k) (to : List ℕ) (wd x : ℕ) (b : Bool) → wd ≡ words T → Raised T wd now to o (mark wd l.first x) b → Raised T wd ws to o (λ t. w.got t || mark wd l.first x t) (new || b)
  joined_from ws now new k w to wd x b ew join = rw ew (raised_then wide w.raised (rw ew at join))

  -- and within FIRST itself, as it is by then
  module _ (now : List ℕ) (new : Bool) (k : ℕ) (w : Walking R T symbols a e o l l.first now new k) where
    pub own_place : (s : ℕ) (is : s ≡ at (span symbols a e) k) (h : k < length (span symbols a e)) → 32768 ≤ s → (wd x : ℕ) → wd ≡ words T → x ≡ s - 32768 → Rows T wd now x now o
    own_place s is h high wd x ew ex =
        let q = first_place l.first now new k w s is h high wd x ew ex in
        record { fits = q.fits; from = omega (arith, q.from, w.raised.long); to = q.to }

    pub joined_own : (to : List ℕ) (wd x : ℕ) (b : Bool) → wd ≡ words T → Raised T wd now to o (mark wd now x) b → Raised T wd l.first to o (λ t. w.got t || mark wd l.first x t) (new || b)
    joined_own to wd x b ew join = rw ew (raised_join x wide w.raised (rw ew at join))
