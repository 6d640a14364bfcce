-- A production's row: the walk's marks, and where it passed the end FOLLOW of the owner and the place of T.
use mathlib.Core.Bool.{Bool, true, false, not, ◌&&◌, ◌||◌, or-false, and-false}
use mathlib.Core.List.{List}
use mathlib.Core.Path.{◌≡◌, refl, sym, ◌∙◌, ap, subst}
use Prim.Native.Nat.{ℕ, ◌+◌, ◌*◌, ◌≤◌, ◌<◌}
use native.Mathlib.Decide.{dec_lt}
use native.Mathlib.Omega.{arith}
use lib.Dec.{eqb, ltb}
use lib.ListN.{length, replicate}
use borrow.Author.Tests.{lt-ltb, le-ltb, ne_eqb, not-true, not-false}
use Rattle.theory.specs.Clashes.{row_of}
use Rattle.theory.specs.Visits.{nullable, first_of}
use Rattle.theory.proofs.Profile.{row_token, row_vanish}
use Rattle.grammar.specs.Flat.{Flat, flat, form, denoted, ProdAt}
use Rattle.rows.specs.Marks.{place, mark, marked, Small, Raised, Rows}
use Rattle.rows.proofs.Marks.{row_whole, mark_set, marked_long, marked_small}
use Rattle.rows.proofs.Raise.{raised_front}
use Rattle.rows.proofs.Tables.{cleared_row, cleared_mark, view_mark}
use Rattle.tables.specs.Sizes.{words}
use Rattle.engine.specs.First.{Lent as Firsts, Ready}
use Rattle.engine.proofs.FirstStepping.{in_lists as prod_lists, walkable as first_walkable}
use Rattle.profiles.specs.Rows.{row_words, Shows, Walkable, Walked, Rowable, marks_in, follow_in, RowIs}

-- one row
pub shows_row : (h : ℕ → Bool) (row : List ℕ) → row_words ≤ length row → Small row → ((t : ℕ) → t < row_words * 32 → mark row_words row 0 t ≡ h t) → Shows 1 (λ _ t. h t) row
shows_row h row room small marks = record {
  room = omega arith;
  small = small;
  marks = λ r t lr lt. subst (λ z. mark row_words row z t ≡ h t) (let e : 0 ≡ r = omega arith in e) (marks t lt);
}

module _ (rules : ℕ) (owners starts symbols costs : List ℕ) (read : Firsts) (follow : List ℕ) (p : ℕ) (ok : Rowable (flat rules owners starts symbols costs) read follow p) where
  abbrev g : Flat
  g = flat rules owners starts symbols costs

  ready : Ready g p read
  ready = record { well = ok.reads.well; is_prod = ok.is_prod; held = ok.reads.held }

  pub in_lists : (p < length owners) × (p + 1 < length starts)
  in_lists = prod_lists rules owners starts symbols costs p read ready

  pub few_words : length costs ≤ 512
  few_words = ok.reads.well.sizes.tokens_high

  module _ (n o a e : ℕ) (en : n ≡ rules) (h : ProdAt owners starts p o a e) where
    pub row_walkable : Walkable n (length costs) symbols a e read (replicate row_words 0)
    row_walkable =
        let w = first_walkable rules owners starts symbols costs p read ready n o a e en h in
        record {
          forth = record { few_rules = w.few_rules; few_tokens = w.few_tokens; rise = w.rise; fits = w.fits; owner = omega (arith, w.owner); symbol = w.symbol; held = w.held };
          zero = refl;
        }

    module _ (past : Bool) (to : List ℕ) (w : Walked n (length costs) symbols a e read (replicate row_words 0) past to) where
      abbrev first : ℕ → Bool
      first t = first_of (marks_in g read) ((denoted g).body p) t

      raised : Raised (length costs) (words (length costs)) (replicate row_words 0) to 0 first w.new
      unfolding form
      raised = rw (en, h.from, h.to) at w.walks.raised

      null : nullable (marks_in g read).empty ((denoted g).body p) ≡ past
      unfolding form
      null = sym (rw (en, h.from, h.to) at w.walks.passed)

      walk_long : length to ≡ row_words
      walk_long = raised.long ∙ (cleared_row row_words).len

      -- the walk's marks alone
      walk_marks : (t : ℕ) → mark row_words to 0 t ≡ (ltb t (length costs) && first t)
      walk_marks t = raised_front row_words (omega (arith, ok.reads.well.sizes.tokens_low)) (omega arith) raised t ∙ rw (cleared_mark row_words row_words 0 t)

      pub row_stops : not past ≡ true → RowIs g read follow p to
      row_stops k = shows_row _ to (omega (arith, walk_long)) raised.small (λ t lt. walk_marks t ∙ is t (dec_lt t (length costs)))
        where
          stays : nullable (marks_in g read).empty ((denoted g).body p) ≡ false
          stays = null ∙ not-true past k

          is : (t : ℕ) → Dec (t < length costs) → (ltb t (length costs) && first t) ≡ row_of (denoted g) (marks_in g read) (follow_in g follow) p t
          is t (yes l) = rw (lt-ltb t (length costs) l) (sym (row_token (denoted g) (marks_in g read) (follow_in g follow) p t l ∙ rw stays (or-false (first t))))
          is t (no l) = rw (le-ltb t (length costs) (omega arith)) (sym (row_vanish (denoted g) (marks_in g read) (follow_in g follow) p t (omega arith) ∙ rw stays (and-false (eqb t (length costs)))))

      pub follow_place : (wd : ℕ) → wd ≡ words (length costs) → Rows (length costs) wd follow o to 0
      follow_place wd ew = rw ew (record {
        fits = omega arith;
        from = row_whole rules (words (length costs)) follow o ok.reads.follows.len (rw (← en) (first_walkable rules owners starts symbols costs p read ready n o a e en h).owner);
        to = omega (arith, walk_long, few_words);
      })

      -- and what is added where it passed the end
      module _ (wd : ℕ) (new : Bool) (joined : List ℕ) (ew : wd ≡ words (length costs)) (j : Raised (length costs) wd to joined 0 (mark wd follow o) new) where
        join : Raised (length costs) (words (length costs)) to joined 0 (mark (words (length costs)) follow o) new
        join = rw ew at j

        pub place_in : place row_words 0 (length costs) < length joined
        place_in = omega (arith, join.long, walk_long, few_words)

        pub row_passes : not past ≡ false → (left : List ℕ) → left ≡ marked row_words joined 0 (length costs) → RowIs g read follow p left
        row_passes k left el = rw el (shows_row _ (marked row_words joined 0 (length costs)) (omega (arith, marked_long row_words joined 0 (length costs), join.long, walk_long)) (marked_small row_words joined 0 (length costs) place_in join.small) (λ t lt.
            mark_set row_words joined 0 (length costs) place_in (omega (arith, few_words)) 0 t lt
            ∙ ap (λ z. z || eqb t (length costs)) (raised_front row_words (omega (arith, ok.reads.well.sizes.tokens_low)) (omega arith) join t ∙ ap (λ z. z || (ltb t (length costs) && mark (words (length costs)) follow o t)) (walk_marks t))
            ∙ is t (dec_lt t (length costs))))
          where
            vanishes : nullable (marks_in g read).empty ((denoted g).body p) ≡ true
            vanishes = null ∙ not-false past k

            owner_row : (t : ℕ) → t < length costs → mark (words (length costs)) follow o t ≡ follow_in g follow ((denoted g).owner p) t
            owner_row t l = sym (ap (λ z. follow_in g follow z t) (sym h.owner) ∙ view_mark rules (length costs) (words (length costs)) follow o t (rw (← en) (first_walkable rules owners starts symbols costs p read ready n o a e en h).owner) l)

            is : (t : ℕ) → Dec (t < length costs) → (((ltb t (length costs) && first t) || (ltb t (length costs) && mark (words (length costs)) follow o t)) || eqb t (length costs)) ≡ row_of (denoted g) (marks_in g read) (follow_in g follow) p t
            is t (yes l) =
                rw (lt-ltb t (length costs) l, ne_eqb t (length costs) (λ e. omega arith), owner_row t l)
                (or-false (first t || follow_in g follow ((denoted g).owner p) t) ∙ sym (row_token (denoted g) (marks_in g read) (follow_in g follow) p t l ∙ ap (λ b. first t || (b && follow_in g follow ((denoted g).owner p) t)) vanishes))
            is t (no l) = rw (le-ltb t (length costs) (omega arith)) (sym (row_vanish (denoted g) (marks_in g read) (follow_in g follow) p t (omega arith) ∙ ap (λ b. eqb t (length costs) && b) vanishes ∙ go (eqb t (length costs))))
              where
                go : (b : Bool) → (b && true) ≡ b
                go true = refl
                go false = refl
