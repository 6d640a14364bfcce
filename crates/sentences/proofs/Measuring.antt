-- A rule's step of the lengths, rounds of it, and what they leave.
use mathlib.Core.Bool.{Bool, true, false, not, cond, ◌&&◌, ◌||◌, false≢true, true≢false}
use mathlib.Core.List.{List}
use mathlib.Core.Path.{◌≡◌, refl, sym, ap, ◌∙◌, subst, fun_ext}
use Prim.Native.Nat.{ℕ, ◌+◌, ◌-◌, ◌≤◌, ◌<◌, min}
use native.Mathlib.Decide.{ℕ_discrete}
use native.Mathlib.Omega.{arith}
use lib.Dec.{eqb, leb}
use lib.ListN.{length, get_or, set, replicate, length-set, length-replicate, get_or-eq_default}
use lib.Seq.{get_or-set_same, get_or-set_other, ext_get_or}
use borrow.Author.Tests.{leb-true, le-leb, lt-ltb, le-ltb, eq-eqb, ne_eqb}
use Rattle.theory.specs.Below.{count}
use Rattle.theory.specs.Fills.{turn, turns, Moves}
use Rattle.theory.specs.Levels.{form_length, length_visit, length_cleared, LengthTrue}
use Rattle.theory.specs.Rounds.{run}
use Rattle.theory.specs.Visits.{all_marked, known}
use Rattle.theory.proofs.Bools.{and_split, and_join}
use Rattle.theory.proofs.Fills.{Filling, turned, Settling, left}
use Rattle.theory.proofs.Lengths.{LengthFits, length_climb, length_any_order, length_cleared_true}
use Rattle.grammar.specs.Flat.{Flat, flat, at, form, denoted, price}
use Rattle.grammar.specs.Well.{WellFormed}
use Rattle.grammar.proofs.Denoted.{proper}
use Rattle.grammar.proofs.Forms.{prod_in, Placed, placed}
use Rattle.rows.proofs.Tables.{cleared_at}
use Rattle.engine.proofs.Summing.{default_same}
use Rattle.tables.specs.Call.{Stepped}
use Rattle.tables.proofs.Stepping.{Stepping, round_start, round_held, round_on, round_end, settle_start, settle_held, settle_inv, settle_on, settle_end, settle_less}
use Rattle.sentences.specs.Lent.{choices_of, lengths_of}
use Rattle.sentences.specs.Measuring.{count_of, Countable, ChosenBy, LengthReady, LengthBecame, Long, LengthBegun, LengthRounds, LengthSettled, LengthFillable, LengthsBy}
use Rattle.sentences.proofs.Counting.{length_entry}

-- one rule's step
module _ (rules : ℕ) (owners starts symbols costs choice : List ℕ) (r : ℕ) (lengths : List ℕ) (ok : LengthReady (flat rules owners starts symbols costs) choice r lengths) where
  abbrev g : Flat
  g = flat rules owners starts symbols costs

  pub choice_in : r < 512
  choice_in = omega (arith, ok.is_rule, ok.well.sizes.rules_high)

  pub length_in : r < length lengths
  length_in = omega (arith, ok.is_rule, ok.long)

  module _ (p : ℕ) (ep : p ≡ at choice r) where
    entry_is : get_or choice r 4096 ≡ p
    entry_is = default_same choice r 4096 0 (omega (arith, choice_in, ok.picks.room)) ∙ sym ep

    -- a rule without a choice stays as it is
    no_step : 4096 ≤ p → (q : ℕ) → length_visit (denoted g) (choices_of choice) r (lengths_of lengths) q ≡ lengths_of lengths q
    unfolding choices_of
    no_step l q = rw (entry_is, le-ltb p 4096 l) (go (eqb q r))
      where
        go : (b : Bool) → cond (b && false) (min (form_length (lengths_of lengths) ((denoted g).body p)) 65536) (lengths_of lengths q) ≡ lengths_of lengths q
        go true = refl
        go false = refl

    pub length_none : 4096 ≤ p → Stepped (LengthBecame g choice r lengths) lengths false lengths
    length_none l = record {
      became = record { long = refl; entries = λ q. sym (no_step l q) };
      told = λ t. absurd (false≢true t);
      still = λ t. refl;
    }

    module _ (l : p < 4096) where
      has : (choices_of choice).has r ≡ true
      unfolding choices_of
      has = rw entry_is (lt-ltb p 4096 l)

      picked : (choices_of choice).prod r ≡ p
      unfolding choices_of
      picked = entry_is

      is_prod_law : p < length owners
      is_prod_law = subst (λ z. z < length owners) picked (ok.picks.chosen.is r has).is_prod

      pub length_start : p < length starts
      length_start = omega (arith, (prod_in g ok.well p is_prod_law).1)

      pub length_next : p + 1 < length starts
      length_next = (prod_in g ok.well p is_prod_law).1

      module _ (a e : ℕ) (ea : a ≡ at starts p) (ee : e ≡ at starts (p + 1)) where
        at_prod : Placed g p (at owners p) a e
        at_prod = placed g ok.well p is_prod_law (at owners p) a e (record { owner = refl; from = ea; to = ee })

        pub length_countable : Countable symbols a e lengths
        length_countable = record {
          rise = at_prod.rise;
          fits = at_prod.fits;
          symbol = λ k lk. record { rule = λ hi. omega (arith, (ok.well.symbols k lk).rule hi, ok.long) };
        }

        module _ (n old : ℕ) (en : n ≡ count_of lengths (form symbols a e)) (eo : old ≡ at lengths r) where
          held : lengths_of lengths r ≡ old
          held = length_entry lengths r length_in ∙ sym eo

          abbrev all : Bool
          all = all_marked (known (lengths_of lengths)) ((denoted g).body p)

          abbrev sum : ℕ
          sum = min (form_length (lengths_of lengths) ((denoted g).body p)) 65536

          counts : n ≡ cond all sum 65537
          unfolding count_of
          counts = en ∙ rw at_prod.body

          -- the visit of an entry
          visited : (q : ℕ) → length_visit (denoted g) (choices_of choice) r (lengths_of lengths) q ≡ cond (eqb q r && all) sum (lengths_of lengths q)
          visited q = rw (has, picked)

          mine : length_visit (denoted g) (choices_of choice) r (lengths_of lengths) r ≡ cond all sum old
          mine = visited r ∙ rw (eq-eqb r r refl, held)

          other : (q : ℕ) → (q ≡ r → ⊥) → length_visit (denoted g) (choices_of choice) r (lengths_of lengths) q ≡ lengths_of lengths q
          other q d = visited q ∙ rw (ne_eqb q r d)

          pub length_stays : (leb n 65536 && not (eqb n old)) ≡ false → Stepped (LengthBecame g choice r lengths) lengths false lengths
          length_stays k = record {
            became = record { long = refl; entries = λ q. elim (ℕ_discrete q r) [ yes d ↦ rw d (held ∙ sym (mine ∙ go all counts)) | no d ↦ sym (other q d) ] };
            told = λ t. absurd (false≢true t);
            still = λ t. refl;
          }
            where
              same : (m : ℕ) → m ≤ 65536 → (leb m 65536 && not (eqb m old)) ≡ false → m ≡ old
              same m le q = elim (ℕ_discrete m old) [ yes d ↦ d | no d ↦ absurd (true≢false (sym (and_join (le-leb m 65536 le) (rw (ne_eqb m old d))) ∙ q)) ]

              go : (b : Bool) → n ≡ cond b sum 65537 → cond b sum old ≡ old
              go true q = sym q ∙ same n (omega (arith, q)) k
              go false q = refl

          pub length_writes : (leb n 65536 && not (eqb n old)) ≡ true → Stepped (LengthBecame g choice r lengths) lengths true (set lengths r n)
          unfolding lengths_of
          length_writes k = record {
            became = record { long = length-set lengths r n; entries = each };
            told = λ t q. differs (ap (λ z. at z r) q);
            still = λ t. absurd (false≢true (sym t));
          }
            where
              go : (b : Bool) → n ≡ cond b sum 65537 → n ≡ cond b sum old
              go true q = q
              go false q = absurd (omega (arith, leb-true n 65536 (and_split (leb n 65536) _ k).0))

              each : (q : ℕ) → lengths_of (set lengths r n) q ≡ length_visit (denoted g) (choices_of choice) r (lengths_of lengths) q
              each q = elim (ℕ_discrete q r) [
                | yes d ↦ ap (λ z. get_or (set lengths r n) z 65537) d ∙ get_or-set_same lengths r n 65537 length_in ∙ go all counts ∙ sym (ap (length_visit (denoted g) (choices_of choice) r (lengths_of lengths)) d ∙ mine)
                | no d ↦ get_or-set_other lengths r q n 65537 d ∙ sym (other q d)
              ]

              differs : at (set lengths r n) r ≡ at lengths r → ⊥
              differs q = true≢false (sym (and_split (leb n 65536) _ k).1 ∙ rw (eq-eqb n old (sym (get_or-set_same lengths r n 0 length_in) ∙ q ∙ sym eo)))

-- steps on lent numbers are visits of what they hold
pub lengths_words : (a b : List ℕ) → length a ≡ length b → ((r : ℕ) → lengths_of a r ≡ lengths_of b r) → a ≡ b
unfolding lengths_of
lengths_words a b e h = ext_get_or 65537 a b e (λ r lr. h r)

module _ (g : Flat) (w : WellFormed g) (choice : List ℕ) (h : ChosenBy g choice) where
  abbrev pub length_filling : Filling (length_visit (denoted g) (choices_of choice)) lengths_of Long g.rules
  length_filling = record {
    Inv = LengthFits (denoted g) (price g) h.table;
    top = g.rules;
    climb = length_climb (denoted g) (price g) h.table (proper g w) (choices_of choice) h.chosen;
    same = λ a. refl;
    then = λ a b d x y. y ∙ x;
  }

  abbrev pub length_stepping : Stepping (length_visit (denoted g) (choices_of choice)) lengths_of Long g.rules (λ ws. length ws ≡ g.rules) (LengthBecame g choice)
  length_stepping = record {
    filling = length_filling;
    held = λ a b s e. s ∙ e;
    shows = λ p lt a b x. fun_ext x.entries;
    spares = λ p lt a b x. x.long;
    stays = λ p lt a e q. record { long = refl; entries = λ r. ap (λ z. z r) (sym q) };
    unique = λ p a b d x y. lengths_words b d (x.long ∙ sym y.long) (λ r. x.entries r ∙ sym (y.entries r));
  }

pub lengths_fit : (g : Flat) (choice lengths : List ℕ) → (b : LengthBegun g choice lengths) → LengthFits (denoted g) (price g) b.picks.table (lengths_of lengths)
unfolding lengths_of
lengths_fit g choice lengths b = record { true' = b.held; out = λ r le. get_or-eq_default lengths 65537 (omega (arith, b.long)) }

-- one for a round still to be made, and one for each rule whose length is not known
abbrev pub length_left : ℕ → List ℕ → Bool → ℕ
length_left R ws changed = cond changed (R - count R (known (lengths_of ws)) + 1) 0

-- the first i rules of a round have had their turn
abbrev pub LengthTurned : Flat → List ℕ → Bool → ℕ → List ℕ → Bool → List ℕ → Type 0
LengthTurned g choice down i = Moves (length_visit (denoted g) (choices_of choice)) lengths_of Long (turns down g.rules i)

-- rounds so far
abbrev pub LengthSettle : Flat → List ℕ → List ℕ → Bool → List ℕ → Type 0
LengthSettle g choice = Settling (length_visit (denoted g) (choices_of choice)) lengths_of Long g.rules

module _ (g : Flat) (choice l : List ℕ) (b : LengthBegun g choice l) where
  module _ (down : Bool) where
    pub length_begin : LengthTurned g choice down 0 l false l
    length_begin = round_start (length_stepping g b.well choice b.picks) down l b.long (lengths_fit g choice l b)

    module _ (n : ℕ) (en : n ≡ g.rules) (i : ℕ) (x : Bool) (now : List ℕ) (m : LengthTurned g choice down i l x now) where
      pub length_ready : (r : ℕ) → i < n → r ≡ turn down n i → LengthReady g choice r now
      length_ready r lt e = record {
        well = b.well;
        picks = b.picks;
        is_rule = turned down g.rules i r (omega arith) (e ∙ ap (λ z. turn down z i) en);
        long = round_held (length_stepping g b.well choice b.picks) down l b.long (lengths_fit g choice l b) i x now m;
      }

      pub length_on : (r : ℕ) (y : Bool) (next : List ℕ) → i < n → r ≡ turn down n i → Stepped (LengthBecame g choice r now) now y next → LengthTurned g choice down (i + 1) l (x || y) next
      length_on r y next lt e = round_on (length_stepping g b.well choice b.picks) down l b.long (lengths_fit g choice l b) i x now m r y next (omega arith) (e ∙ ap (λ z. turn down z i) en)

      pub length_end : i ≤ n → n ≤ i → LengthRounds g choice down l x now
      length_end lo hi = round_end (length_stepping g b.well choice b.picks) down l b.long (lengths_fit g choice l b) i x now m (omega arith) (omega arith)

  pub length_starts : LengthSettle g choice l true l
  length_starts = settle_start (length_stepping g b.well choice b.picks) l b.long (lengths_fit g choice l b)

  module _ (x : Bool) (now : List ℕ) (s : LengthSettle g choice l x now) where
    pub length_begun : LengthBegun g choice now
    length_begun = record {
      well = b.well;
      picks = b.picks;
      long = settle_held (length_stepping g b.well choice b.picks) l b.long (lengths_fit g choice l b) x now s;
      held = (settle_inv (length_stepping g b.well choice b.picks) l b.long (lengths_fit g choice l b) x now s).true';
    }

    pub length_again : (down y : Bool) (next : List ℕ) → LengthRounds g choice down now y next → LengthSettle g choice l y next
    length_again = settle_on (length_stepping g b.well choice b.picks) l b.long (lengths_fit g choice l b) x now s

    pub length_done : x ≡ false → LengthSettled g choice l now
    length_done = settle_end (length_stepping g b.well choice b.picks) l b.long (lengths_fit g choice l b) x now s

    pub length_less : (down y : Bool) (next : List ℕ) → LengthRounds g choice down now y next → x ≡ true → length_left g.rules next y < length_left g.rules now x
    unfolding left length_climb
    length_less down y next m e = settle_less (length_stepping g b.well choice b.picks) l b.long (lengths_fit g choice l b) x now s down y next m e

-- a fill: from no length known to the defined ones
unknown_lengths : (n : ℕ) → lengths_of (replicate n 65537) ≡ length_cleared
unfolding lengths_of
unknown_lengths n = fun_ext (cleared_at n 65537)

module _ (g : Flat) (choice lengths : List ℕ) (ok : LengthFillable g choice lengths) (mid : List ℕ) (e : mid ≡ replicate (length lengths) 65537) where
  shown : lengths_of mid ≡ length_cleared
  shown = ap lengths_of e ∙ unknown_lengths (length lengths)

  pub length_fill_begun : LengthBegun g choice mid
  length_fill_begun = record {
    well = ok.well;
    picks = ok.picks;
    long = ap length e ∙ length-replicate {A = ℕ} (length lengths) 65537 ∙ ok.long;
    held = subst (LengthTrue (denoted g) (price g) ok.picks.table) (sym shown) (length_cleared_true (denoted g) (price g) ok.picks.table (proper g ok.well) (choices_of choice) ok.picks.chosen);
  }

  module _ (to : List ℕ) (s : LengthSettled g choice mid to) where
    pub length_fill_defined : LengthsBy g choice to
    length_fill_defined c h =
        let r : lengths_of to ≡ run (length_visit (denoted g) (choices_of choice)) s.visits length_cleared = s.ran ∙ ap (run (length_visit (denoted g) (choices_of choice)) s.visits) shown in
        record {
          long = s.keeps ∙ length_fill_begun.long;
          exact = rw r ((length_any_order (denoted g) (price g) c (proper g ok.well) (choices_of choice) h).exact s.visits s.valid (rw r at s.rest));
        }
