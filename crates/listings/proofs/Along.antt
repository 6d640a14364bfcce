-- A production with a choice for its places, symbol by symbol: what the symbols left stand for.
use mathlib.Core.Bool.{true, false, cond}
use mathlib.Core.List.{List, ◌∷◌, ◌++◌, Memᴰ}
use mathlib.Core.Path.{◌≡◌, refl, sym, ap, ◌∙◌, subst}
use Prim.Native.Nat.{ℕ, suc, ◌+◌, ◌*◌, ◌-◌, ◌≤◌, ◌<◌, min}
use native.Mathlib.Nat.{add-zero, one-mul, mul_comm, le-mul_of_pos_right}
use native.Mathlib.Omega.{arith}
use lib.Dec.{eqb}
use lib.ListN.{length, get_or, take, drop}
use lib.Seq.{drop-cons}
use borrow.Author.Tests.{eq-eqb, ne_eqb}
use Rattle.theory.specs.Grammar.{tok, rul}
use Rattle.theory.specs.Visits.{all_marked}
use Rattle.theory.specs.Listing.{Item, nothing, listed}
use Rattle.theory.specs.Counts.{form_ways}
use Rattle.theory.specs.Odometer.{Fits, places, picked}
use Rattle.theory.proofs.Bools.{and_split}
use Rattle.theory.proofs.Levels.{all_at}
use Rattle.theory.proofs.Depth.{deep_priced, deep_enough, deep_not_circular, listing_same}
use Rattle.theory.proofs.Counts.{known_count, count_one, listing_some}
use Rattle.theory.proofs.Numbers.{first_length}
use Rattle.theory.proofs.Odometer.{places_few, ways_some}
use Rattle.grammar.specs.Flat.{Flat, at, form, denoted, price}
use Rattle.grammar.proofs.Denoted.{proper}
use Rattle.engine.specs.Cost.{costs_of}
use Rattle.engine.proofs.Spans.{span, span_in, span_is, span_token, span_rule}
use Rattle.sentences.specs.Lent.{lengths_of}
use Rattle.sentences.specs.Measuring.{LengthsDefined}
use Rattle.sentences.proofs.Counting.{length_entry}
use Rattle.listings.specs.Calls.{counts_of, CountsDefined}
use Rattle.listings.specs.Counting.{deep_by, many_by, Ground}
use Rattle.listings.specs.Numbers.{lists_by, rule_words, production_words, RuleMeasurable, ProductionMeasurable}
use Rattle.listings.proofs.Counting.{count_entry}

-- a rule within the levels: its list is that of all levels, and its count is known
module _ (g : Flat) (next cost choice : List ℕ) (gr : Ground g next cost choice) (levels q : ℕ) (d : deep_by g cost levels q ≡ true) where
  deepest : deep_by g cost g.rules q ≡ true
  deepest = deep_enough (denoted g) (price g) (costs_of cost) (proper g gr.well) gr.prices.exact levels q d

  pub list_same : lists_by g cost levels q ≡ listed (denoted g) (price g) (costs_of cost) q
  list_same = listing_same (denoted g) (price g) (costs_of cost) levels g.rules q d deepest

  pub count_some : (counts : List ℕ) → CountsDefined g (costs_of cost) counts → 0 < counts_of counts q
  count_some counts y =
      omega (
        arith,
        count_one (denoted g) (price g) (costs_of cost) (y.exact q) (known_count (denoted g) (price g) (costs_of cost) (proper g gr.well) gr.prices.exact (min (many_by g cost q) 65536) deepest refl),
        listing_some (denoted g) (price g) (costs_of cost) (proper g gr.well) gr.prices.exact g.rules q deepest,
      )

  -- its length entry is that of number 0
  pub length_first : (lengths : List ℕ) → LengthsDefined g (costs_of cost) lengths → q < g.rules → (y : ℕ) → y ≡ at lengths q → y ≡ min (length (rule_words g cost levels q 0)) 65536
  length_first lengths h lt y ey =
      ey
      ∙ sym (length_entry lengths q (omega (arith, h.long)))
      ∙ first_length (denoted g) (price g) (costs_of cost) (proper g gr.well) gr.prices.exact (lengths_of lengths) h.exact q (deep_priced (denoted g) (price g) (costs_of cost) levels q d) (deep_not_circular (denoted g) (price g) (costs_of cost) levels q d)
      ∙ ap (λ (z : List Item). min (length (get_or z 0 nothing).tokens) 65536) (sym list_same)

-- the symbols after the first i from a on, and the choices from j on that are theirs
pub record Along (g : Flat) (cost counts : List ℕ) (levels a e : ℕ) (todo : List ℕ) (i j : ℕ) : Type 0 where
  pub high : a + i ≤ e
  pub within : all_marked (deep_by g cost levels) (form g.symbols (a + i) e) ≡ true
  pub few : form_ways (counts_of counts) (form g.symbols (a + i) e) ≤ 65535
  pub left : j + length (places (counts_of counts) (form g.symbols (a + i) e)) ≤ 15
  pub fits : Fits (places (counts_of counts) (form g.symbols (a + i) e)) (take (length (places (counts_of counts) (form g.symbols (a + i) e))) (drop j todo))

-- what they stand for
abbrev pub left_words : Flat → (cost counts : List ℕ) → (levels a e : ℕ) → (todo : List ℕ) → (i j : ℕ) → List ℕ
left_words g cost counts levels a e todo i j = (picked (lists_by g cost levels) (counts_of counts) (form g.symbols (a + i) e) (drop j todo)).tokens

module _ (g : Flat) (next cost choice lengths counts : List ℕ) (levels a e : ℕ) (todo : List ℕ) (ok : ProductionMeasurable g next cost choice lengths counts levels a e todo) where
  some : (i j : ℕ) → Along g cost counts levels a e todo i j → (q : ℕ) → Memᴰ (rul q) (form g.symbols (a + i) e) → 0 < counts_of counts q
  some i j x q m = count_some g next cost choice ok.ground levels q (all_at (deep_by g cost levels) (form g.symbols (a + i) e) x.within q m) counts ok.counts_defined

  pub along_start : Along g cost counts levels a e todo 0 0
  along_start = record {
    high = omega (arith, ok.rise);
    within = rw (add-zero a) ok.within;
    few = rw (add-zero a) ok.few;
    left = rw (add-zero a) (omega (arith, places_few (counts_of counts) (form g.symbols a e) (λ q m. count_some g next cost choice ok.ground levels q (all_at (deep_by g cost levels) (form g.symbols a e) ok.within q m) counts ok.counts_defined) ok.few));
    fits = rw (add-zero a) ok.fits;
  }

  pub start_words : production_words g cost counts levels a e todo ≡ left_words g cost counts levels a e todo 0 0
  start_words = ap (λ (z : ℕ). (picked (lists_by g cost levels) (counts_of counts) (form g.symbols z e) todo).tokens) {x = a} {y = a + 0} (omega arith)

  module _ (i j : ℕ) (x : Along g cost counts levels a e todo i j) (l : i < length (span g.symbols a e)) (s : ℕ) (es : s ≡ at (span g.symbols a e) i) where
    below : a + i < e
    below = span_in g.symbols a e ok.inside i l

    pub along_symbol : a + i < length g.symbols
    along_symbol = omega (arith, ok.inside, below)

    is : s ≡ at g.symbols (a + i)
    is = span_is g.symbols a e ok.inside i l s es

    module _ (low : s < 32768) where
      front : form g.symbols (a + i) e ≡ tok s ∷ form g.symbols (a + (i + 1)) e
      front = span_token g.symbols a e ok.inside i l s es low

      pub along_token : Along g cost counts levels a e todo (i + 1) j
      along_token = record {
        high = omega (arith, below);
        within = rw front at x.within;
        few = rw front at x.few;
        left = rw front at x.left;
        fits = subst (λ z. Fits (places (counts_of counts) z) (take (length (places (counts_of counts) z)) (drop j todo))) front x.fits;
      }

      pub token_words : left_words g cost counts levels a e todo i j ≡ s ∷ left_words g cost counts levels a e todo (i + 1) j
      token_words = ap (λ z. (picked (lists_by g cost levels) (counts_of counts) z (drop j todo)).tokens) front

    module _ (high : 32768 ≤ s) (r : ℕ) (er : r ≡ s - 32768) where
      opens : form g.symbols (a + i) e ≡ rul r ∷ form g.symbols (a + (i + 1)) e
      opens = rw er (span_rule g.symbols a e ok.inside i l s es high)

      parts : (deep_by g cost levels r ≡ true) × (all_marked (deep_by g cost levels) (form g.symbols (a + (i + 1)) e) ≡ true)
      parts = and_split (deep_by g cost levels r) _ (rw opens at x.within)

      pub along_deep : deep_by g cost levels r ≡ true
      along_deep = parts.0

      pub along_rule : r < g.rules
      along_rule = omega (arith, (ok.ground.well.symbols (a + i) along_symbol).rule (omega (arith, is)), is)

      pub along_entry : r < length counts
      along_entry = omega (arith, along_rule, ok.counts_defined.long)

      pub along_length : r < length lengths
      along_length = omega (arith, along_rule, ok.lengths_defined.long)

      ways : counts_of counts r * form_ways (counts_of counts) (form g.symbols (a + (i + 1)) e) ≤ 65535
      ways = rw opens at x.few

      module _ (n : ℕ) (en : n ≡ at counts r) where
        held : counts_of counts r ≡ n
        held = count_entry counts r along_entry ∙ sym en

        -- a rule with one sentence: its first
        module _ (one : n ≡ 1) where
          yes_one : eqb (counts_of counts r) 1 ≡ true
          yes_one = eq-eqb (counts_of counts r) 1 (held ∙ one)

          same : places (counts_of counts) (form g.symbols (a + i) e) ≡ places (counts_of counts) (form g.symbols (a + (i + 1)) e)
          same = ap (places (counts_of counts)) opens ∙ ap (λ b. cond b (places (counts_of counts) (form g.symbols (a + (i + 1)) e)) (counts_of counts r ∷ places (counts_of counts) (form g.symbols (a + (i + 1)) e))) yes_one

          pub along_one : Along g cost counts levels a e todo (i + 1) j
          along_one = record {
            high = omega (arith, below);
            within = parts.1;
            few = omega (arith, ways, ap (λ (z : ℕ). z * form_ways (counts_of counts) (form g.symbols (a + (i + 1)) e)) (held ∙ one), one-mul (form_ways (counts_of counts) (form g.symbols (a + (i + 1)) e)));
            left = omega (arith, x.left, ap length same);
            fits = subst (λ z. Fits z (take (length z) (drop j todo))) same x.fits;
          }

          pub one_words : left_words g cost counts levels a e todo i j ≡ rule_words g cost levels r 0 ++ left_words g cost counts levels a e todo (i + 1) j
          one_words = ap (λ z. (picked (lists_by g cost levels) (counts_of counts) z (drop j todo)).tokens) opens ∙ rw yes_one refl

        -- a place: the number that is chosen
        module _ (d : n ≡ 1 → ⊥) where
          not_one : eqb (counts_of counts r) 1 ≡ false
          not_one = ne_eqb (counts_of counts r) 1 (λ z. d (sym held ∙ z))

          more : places (counts_of counts) (form g.symbols (a + i) e) ≡ counts_of counts r ∷ places (counts_of counts) (form g.symbols (a + (i + 1)) e)
          more = ap (places (counts_of counts)) opens ∙ ap (λ b. cond b (places (counts_of counts) (form g.symbols (a + (i + 1)) e)) (counts_of counts r ∷ places (counts_of counts) (form g.symbols (a + (i + 1)) e))) not_one

          pub along_place : j < 16
          along_place = omega (arith, x.left, ap length more)

          digits : drop j todo ≡ get_or todo j 0 ∷ drop (suc j) todo
          digits = drop-cons todo j 0 (omega (arith, along_place, ok.room))

          fit : (get_or todo j 0 < counts_of counts r) × Fits (places (counts_of counts) (form g.symbols (a + (i + 1)) e)) (take (length (places (counts_of counts) (form g.symbols (a + (i + 1)) e))) (drop (suc j) todo))
          fit = subst (λ z. Fits (counts_of counts r ∷ places (counts_of counts) (form g.symbols (a + (i + 1)) e)) (take (suc (length (places (counts_of counts) (form g.symbols (a + (i + 1)) e)))) z)) digits (subst (λ z. Fits z (take (length z) (drop j todo))) more x.fits)

          pub along_more : Along g cost counts levels a e todo (i + 1) (j + 1)
          along_more = record {
            high = omega (arith, below);
            within = parts.1;
            few = omega (arith, ways, le-mul_of_pos_right {m = counts_of counts r} (form_ways (counts_of counts) (form g.symbols (a + (i + 1)) e)) (count_some g next cost choice ok.ground levels r along_deep counts ok.counts_defined), mul_comm (counts_of counts r) (form_ways (counts_of counts) (form g.symbols (a + (i + 1)) e)));
            left = omega (arith, x.left, ap length more);
            fits = subst (λ (z : ℕ). Fits (places (counts_of counts) (form g.symbols (a + (i + 1)) e)) (take (length (places (counts_of counts) (form g.symbols (a + (i + 1)) e))) (drop z todo))) {x = suc j} {y = j + 1} (omega arith) fit.1;
          }

          pub along_number : (k : ℕ) → k ≡ at todo j → RuleMeasurable g next cost choice lengths counts levels r k
          along_number k ek = record {
            numbered = record {
              ground = ok.ground;
              counts_defined = ok.counts_defined;
              is_rule = along_rule;
              within = along_deep;
              few = omega (arith, ways, le-mul_of_pos_right {m = form_ways (counts_of counts) (form g.symbols (a + (i + 1)) e)} (counts_of counts r) (ways_some (counts_of counts) (form g.symbols (a + (i + 1)) e) (λ q m. count_some g next cost choice ok.ground levels q (all_at (deep_by g cost levels) (form g.symbols (a + (i + 1)) e) parts.1 q m) counts ok.counts_defined)));
              below = omega (arith, fit.0, ek);
            };
            lengths_defined = ok.lengths_defined;
          }

          pub place_words : (k : ℕ) → k ≡ at todo j → left_words g cost counts levels a e todo i j ≡ rule_words g cost levels r k ++ left_words g cost counts levels a e todo (i + 1) (j + 1)
          place_words k ek =
              ap (λ z. (picked (lists_by g cost levels) (counts_of counts) z (drop j todo)).tokens) opens
              ∙ rw not_one refl
              ∙ ap (λ z. rule_words g cost levels r (get_or z 0 0) ++ (picked (lists_by g cost levels) (counts_of counts) (form g.symbols (a + (i + 1)) e) (drop 1 z)).tokens) digits
              ∙ ap (λ (z : ℕ). rule_words g cost levels r z ++ left_words g cost counts levels a e todo (i + 1) (suc j)) (sym ek)
              ∙ ap (λ (z : ℕ). rule_words g cost levels r k ++ left_words g cost counts levels a e todo (i + 1) z) {x = suc j} {y = j + 1} (omega arith)
