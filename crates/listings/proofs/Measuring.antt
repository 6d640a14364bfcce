-- The token count of number k: of a production with its choices, symbol by symbol, and of a rule by the production that has it.
use mathlib.Core.Bool.{true, false≢true}
use mathlib.Core.List.{List}
use mathlib.Core.Path.{◌≡◌, refl, sym, ap, ◌∙◌, subst}
use Prim.Native.Nat.{ℕ, zero, suc, ◌+◌, ◌-◌, ◌≤◌, ◌<◌, min}
use native.Mathlib.Omega.{arith}
use lib.ListN.{length, length-append, take, drop, replicate}
use Rattle.theory.specs.Visits.{all_marked}
use Rattle.theory.specs.Counts.{form_ways}
use Rattle.theory.specs.Odometer.{Fits, places, picked}
use Rattle.theory.proofs.Listing.{deep_at}
use Rattle.theory.proofs.Numbers.{found_item}
use Rattle.theory.proofs.Odometer.{picked_front}
use Rattle.grammar.specs.Flat.{Flat, at, denoted, price}
use Rattle.grammar.proofs.Forms.{prod_in, Placed, placed}
use Rattle.engine.specs.Cost.{costs_of}
use Rattle.engine.proofs.Spans.{span, span_done}
use Rattle.listings.specs.Calls.{counts_of}
use Rattle.listings.specs.Counting.{deep_by}
use Rattle.listings.specs.Numbers.{Numbered, NumberReady, Finds, lists_by, rule_words, production_words, RuleMeasurable, ProductionMeasurable}
use Rattle.listings.proofs.Finding.{deep_here, inside_exact, ways_few}
use Rattle.listings.proofs.Along.{length_first, Along, left_words, along_start, start_words, along_token, token_words, along_deep, along_rule, along_one, one_words, along_more, along_number, place_words}

-- n is the token count so far, cut at 65536
pub record Measuring (g : Flat) (cost counts : List ℕ) (levels a e : ℕ) (todo : List ℕ) (i j n : ℕ) : Type 0 where
  pub along : Along g cost counts levels a e todo i j
  pub cap : n ≤ 65536
  pub rest : min (length (production_words g cost counts levels a e todo)) 65536 ≡ min (n + length (left_words g cost counts levels a e todo i j)) 65536

module _ (g : Flat) (next cost choice lengths counts : List ℕ) (levels a e : ℕ) (todo : List ℕ) (ok : ProductionMeasurable g next cost choice lengths counts levels a e todo) where
  pub measuring_start : Measuring g cost counts levels a e todo 0 0 0
  measuring_start = record { along = along_start g next cost choice lengths counts levels a e todo ok; cap = omega arith; rest = omega (arith, ap length (start_words g next cost choice lengths counts levels a e todo ok)) }

  module _ (i j n : ℕ) (x : Measuring g cost counts levels a e todo i j n) where
    pub measuring_end : length (span g.symbols a e) ≤ i → n ≡ min (length (production_words g cost counts levels a e todo)) 65536
    measuring_end l = omega (arith, x.cap, x.rest, ap (λ z. length (picked (lists_by g cost levels) (counts_of counts) z (drop j todo)).tokens) (span_done g.symbols a e ok.inside i x.along.high l))

    module _ (l : i < length (span g.symbols a e)) (s : ℕ) (es : s ≡ at (span g.symbols a e) i) where
      pub measuring_one : (n ≤ 65536) × (1 ≤ 65536)
      measuring_one = (x.cap, omega arith)

      pub measuring_token : s < 32768 → (to : ℕ) → to ≡ min (n + 1) 65536 → Measuring g cost counts levels a e todo (i + 1) j to
      measuring_token low to q = record {
        along = along_token g next cost choice lengths counts levels a e todo ok i j x.along l s es low;
        cap = omega arith;
        rest = omega (arith, x.rest, ap length (token_words g next cost choice lengths counts levels a e todo ok i j x.along l s es low));
      }

      module _ (high : 32768 ≤ s) (r : ℕ) (er : r ≡ s - 32768) (c : ℕ) (ec : c ≡ at counts r) where
        module _ (one : c ≡ 1) (y : ℕ) (ey : y ≡ at lengths r) where
          first : y ≡ min (length (rule_words g cost levels r 0)) 65536
          first = length_first g next cost choice ok.ground levels r (along_deep g next cost choice lengths counts levels a e todo ok i j x.along l s es high r er) lengths ok.lengths_defined (along_rule g next cost choice lengths counts levels a e todo ok i j x.along l s es high r er) y ey

          pub measuring_caps : (n ≤ 65536) × (y ≤ 65536)
          measuring_caps = (x.cap, omega (arith, first))

          pub measuring_first : (to : ℕ) → to ≡ min (n + y) 65536 → Measuring g cost counts levels a e todo (i + 1) j to
          measuring_first to q = record {
            along = along_one g next cost choice lengths counts levels a e todo ok i j x.along l s es high r er c ec one;
            cap = omega arith;
            rest = omega (
              arith,
              x.rest,
              first,
              ap length (one_words g next cost choice lengths counts levels a e todo ok i j x.along l s es high r er c ec one),
              length-append (rule_words g cost levels r 0) (left_words g cost counts levels a e todo (i + 1) j),
            );
          }

        module _ (d : c ≡ 1 → ⊥) (k : ℕ) (ek : k ≡ at todo j) where
          pub measuring_rule : RuleMeasurable g next cost choice lengths counts levels r k
          measuring_rule = along_number g next cost choice lengths counts levels a e todo ok i j x.along l s es high r er c ec d k ek

          module _ (y : ℕ) (ey : y ≡ min (length (rule_words g cost levels r k)) 65536) where
            pub measuring_rule_caps : (n ≤ 65536) × (y ≤ 65536)
            measuring_rule_caps = (x.cap, omega arith)

            pub measuring_on : (to : ℕ) → to ≡ min (n + y) 65536 → Measuring g cost counts levels a e todo (i + 1) (j + 1) to
            measuring_on to q = record {
              along = along_more g next cost choice lengths counts levels a e todo ok i j x.along l s es high r er c ec d;
              cap = omega arith;
              rest = omega (
                arith,
                x.rest,
                ey,
                ap length (place_words g next cost choice lengths counts levels a e todo ok i j x.along l s es high r er c ec d k ek),
                length-append (rule_words g cost levels r k) (left_words g cost counts levels a e todo (i + 1) (j + 1)),
              );
            }

-- a rule within levels has one at least
level_some : (g : Flat) (cost : List ℕ) (n r : ℕ) → deep_by g cost n r ≡ true → n ≡ suc (n - 1)
level_some g cost zero r e = absurd (false≢true e)
level_some g cost (suc n) r e = omega arith

-- a rule: the production that has number k, one level less
module _ (g : Flat) (next cost choice lengths counts : List ℕ) (levels r k : ℕ) (ok : RuleMeasurable g next cost choice lengths counts levels r k) where
  pub measured_entry : r < length lengths
  measured_entry = omega (arith, ok.numbered.is_rule, ok.lengths_defined.long)

  pub measured_first : k ≡ 0 → (y : ℕ) → y ≡ at lengths r → y ≡ min (length (rule_words g cost levels r k)) 65536
  measured_first z y ey = length_first g next cost choice ok.numbered.ground levels r ok.numbered.within lengths ok.lengths_defined ok.numbered.is_rule y ey ∙ ap (λ (i : ℕ). min (length (rule_words g cost levels r i)) 65536) (sym z)

  up : levels ≡ suc (levels - 1)
  up = level_some g cost levels r ok.numbered.within

  pub measured_level : 1 ≤ levels
  measured_level = omega (arith, up)

  below_it : Numbered g next cost choice counts ((levels - 1) + 1) r k
  below_it = subst (λ (z : ℕ). Numbered g next cost choice counts z r k) {x = levels} {y = (levels - 1) + 1} (omega (arith, up)) ok.numbered

  pub measured_find : NumberReady g next cost choice counts (levels - 1) r k (replicate 16 0)
  measured_find = record { numbered = below_it; begun = refl }

  module _ (p : ℕ) (todo : List ℕ) (f : Finds g cost counts (levels - 1) r k p todo) where
    is_prod_law : p < length g.owners
    is_prod_law = f.found.cheapest.is_prod

    pub measured_start_at : p < length g.starts
    measured_start_at = omega (arith, (prod_in g ok.numbered.ground.well p is_prod_law).1)

    pub measured_next_at : p + 1 < length g.starts
    measured_next_at = (prod_in g ok.numbered.ground.well p is_prod_law).1

    module _ (a e : ℕ) (ea : a ≡ at g.starts p) (ee : e ≡ at g.starts (p + 1)) where
      at_prod : Placed g p (at g.owners p) a e
      at_prod = placed g ok.numbered.ground.well p is_prod_law (at g.owners p) a e (record { owner = refl; from = ea; to = ee })

      pub measured_production : ProductionMeasurable g next cost choice lengths counts (levels - 1) a e todo
      measured_production = record {
        ground = ok.numbered.ground;
        counts_defined = ok.numbered.counts_defined;
        lengths_defined = ok.lengths_defined;
        rise = at_prod.rise;
        inside = at_prod.fits;
        within = subst (λ z. all_marked (deep_by g cost (levels - 1)) z ≡ true) at_prod.body (deep_at (denoted g) (price g) (costs_of cost) (levels - 1) r p (deep_here g next cost choice counts (levels - 1) r k below_it) f.found.cheapest);
        few = subst (λ z. form_ways (counts_of counts) z ≤ 65535) at_prod.body (ways_few g next cost choice counts (levels - 1) r k below_it p f.found.cheapest);
        room = f.room;
        fits = subst (λ z. Fits (places (counts_of counts) z) (take (length (places (counts_of counts) z)) todo)) at_prod.body f.found.fits;
      }

      -- what it stands for is the sentence of number k
      pub measured_words : rule_words g cost levels r k ≡ production_words g cost counts (levels - 1) a e todo
      measured_words =
          ap (λ (z : ℕ). rule_words g cost z r k) up
          ∙ ap (λ z. z.tokens) (found_item (denoted g) (price g) (costs_of cost) (lists_by g cost (levels - 1)) (counts_of counts) r k p (take (length (places (counts_of counts) ((denoted g).body p))) todo) (λ q u. (inside_exact g next cost choice counts (levels - 1) r k below_it q u).0) f.found)
          ∙ ap (λ z. z.tokens) (picked_front (lists_by g cost (levels - 1)) (counts_of counts) ((denoted g).body p) todo)
          ∙ ap (λ z. (picked (lists_by g cost (levels - 1)) (counts_of counts) z todo).tokens) at_prod.body

      pub measured_is : (x : ℕ) → x ≡ min (length (production_words g cost counts (levels - 1) a e todo)) 65536 → x ≡ min (length (rule_words g cost levels r k)) 65536
      measured_is x ex = ex ∙ ap (λ z. min (length z) 65536) (sym measured_words)
