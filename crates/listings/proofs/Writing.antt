-- Number k written: a production with its choices, symbol by symbol, and a rule by its first choice or by the production that has it.
use mathlib.Core.Bool.{true}
use mathlib.Core.List.{List, [], ◌∷◌, ◌++◌, append-nil, append_assoc}
use mathlib.Core.Path.{◌≡◌, sym, ap, ◌∙◌, subst}
use Prim.Native.Nat.{ℕ, ◌+◌, ◌-◌, ◌≤◌, ◌<◌}
use native.Mathlib.Omega.{arith}
use lib.ListN.{length, length-append, set, drop}
use Rattle.theory.specs.Levels.{expanded}
use Rattle.theory.specs.Odometer.{picked}
use Rattle.theory.proofs.Numbers.{deep_within, listing_first}
use Rattle.grammar.specs.Flat.{Flat, at, denoted, price}
use Rattle.grammar.proofs.Denoted.{proper}
use Rattle.tables.specs.Append.{Appended}
use Rattle.tables.proofs.Appending.{appended_long, appended_none, appended_one, appended_then}
use Rattle.engine.specs.Cost.{costs_of}
use Rattle.engine.proofs.Spans.{span, span_done}
use Rattle.sentences.specs.Expanding.{Led, Remembers, Wrote, RuleReady}
use Rattle.sentences.specs.Lent.{choices_of}
use Rattle.sentences.specs.Measuring.{LengthsDefined}
use Rattle.sentences.proofs.Expanding.{leads_way, remembers_more}
use Rattle.listings.specs.Calls.{counts_of}
use Rattle.listings.specs.Counting.{deep_by, Ground}
use Rattle.listings.specs.Numbers.{Finds, lists_by, rule_words, production_words, RuleWritable, ProductionWritable}
use Rattle.listings.proofs.Along.{Along, left_words, along_start, start_words, along_token, token_words, along_deep, along_rule, along_one, one_words, along_more, along_number, place_words}
use Rattle.listings.proofs.Measuring.{measured_production, measured_words}

-- number 0 is the sentence by first choices
module _ (g : Flat) (next cost choice lengths : List ℕ) (gr : Ground g next cost choice) (ls : LengthsDefined g (costs_of cost) lengths) (levels r : ℕ) (is_rule : r < g.rules) (d : deep_by g cost levels r ≡ true) where
  led : Led g choice lengths
  led = record {
    well = gr.well;
    room = gr.picks.room;
    long = ls.long;
    leads = leads_way g gr.well (costs_of cost) choice lengths gr.picks.chosen ls.exact;
  }

  first_words : rule_words g cost levels r 0 ≡ expanded (denoted g) (choices_of choice) levels r
  first_words = listing_first (denoted g) (price g) (costs_of cost) (proper g gr.well) gr.prices.exact (choices_of choice) gr.picks.chosen levels r d

  pub first_ready : (at' : ℕ) (begun out : List ℕ) → at' + length (rule_words g cost levels r 0) ≤ length out → at' + length (rule_words g cost levels r 0) ≤ 65535 → Remembers g choice begun at' out → RuleReady g choice lengths levels r at' begun out
  first_ready at' begun out le most m = record {
    led = led;
    is_rule = is_rule;
    grounded = deep_within (denoted g) (price g) (costs_of cost) (proper g gr.well) gr.prices.exact (choices_of choice) gr.picks.chosen levels r d;
    fits = omega (arith, le, ap length first_words);
    most = omega (arith, most, ap length first_words);
    remembers = m;
  }

  pub first_wrote : (at' x : ℕ) (out then new : List ℕ) → Wrote g choice out at' (expanded (denoted g) (choices_of choice) levels r) then new x → Wrote g choice out at' (rule_words g cost levels r 0) then new x
  first_wrote at' x out then new h = subst (λ z. Wrote g choice out at' z then new x) (sym first_words) h

-- w is written for the first i symbols from a on
pub record Writing (g : Flat) (cost choice counts : List ℕ) (levels a e : ℕ) (todo : List ℕ) (at : ℕ) (old : List ℕ) (i j to : ℕ) (begun out : List ℕ) : Type 0 where
  pub along : Along g cost counts levels a e todo i j
  pub w : List ℕ
  pub wrote : Appended old at w out to
  pub whole : production_words g cost counts levels a e todo ≡ w ++ left_words g cost counts levels a e todo i j
  pub remembers : Remembers g choice begun to out

module _ (g : Flat) (next cost choice lengths counts : List ℕ) (levels a e : ℕ) (todo : List ℕ) (at' : ℕ) (first old : List ℕ) (ok : ProductionWritable g next cost choice lengths counts levels a e todo at' first old) where
  pub writing_start : Writing g cost choice counts levels a e todo at' old 0 0 at' first old
  writing_start = record { along = along_start g next cost choice lengths counts levels a e todo ok.measure; w = []; wrote = appended_none old at'; whole = start_words g next cost choice lengths counts levels a e todo ok.measure; remembers = ok.remembers }

  module _ (i j to : ℕ) (begun out : List ℕ) (x : Writing g cost choice counts levels a e todo at' old i j to begun out) where
    -- the room for what is left
    room : to + length (left_words g cost counts levels a e todo i j) ≤ length out
    room = omega (arith, ok.room, ap length x.whole, length-append x.w (left_words g cost counts levels a e todo i j), x.wrote.next, appended_long x.wrote)

    low_room : to + length (left_words g cost counts levels a e todo i j) ≤ 65535
    low_room = omega (arith, ok.most, ap length x.whole, length-append x.w (left_words g cost counts levels a e todo i j), x.wrote.next)

    pub writing_long : length out ≡ length old
    writing_long = appended_long x.wrote

    pub writing_end : length (span g.symbols a e) ≤ i → Wrote g choice old at' (production_words g cost counts levels a e todo) begun out to
    writing_end l = record {
      appends = subst (λ z. Appended old at' z out to) (sym (x.whole ∙ ap (λ z. x.w ++ (picked (lists_by g cost levels) (counts_of counts) z (drop j todo)).tokens) (span_done g.symbols a e ok.measure.inside i x.along.high l) ∙ append-nil x.w)) x.wrote;
      remembers = x.remembers;
    }

    module _ (l : i < length (span g.symbols a e)) (s : ℕ) (es : s ≡ at (span g.symbols a e) i) where
      module _ (low : s < 32768) where
        words : left_words g cost counts levels a e todo i j ≡ s ∷ left_words g cost counts levels a e todo (i + 1) j
        words = token_words g next cost choice lengths counts levels a e todo ok.measure i j x.along l s es low

        pub writing_place : to < length out
        writing_place = omega (arith, room, ap length words)

        pub writing_low : to < 65535
        writing_low = omega (arith, low_room, ap length words)

        pub writing_token : Writing g cost choice counts levels a e todo at' old (i + 1) j (to + 1) begun (set out to s)
        writing_token = record {
          along = along_token g next cost choice lengths counts levels a e todo ok.measure i j x.along l s es low;
          w = x.w ++ (s ∷ []);
          wrote = appended_then x.wrote (appended_one out to s);
          whole = x.whole ∙ ap (λ z. x.w ++ z) words ∙ sym (append_assoc x.w (s ∷ []) (left_words g cost counts levels a e todo (i + 1) j));
          remembers = remembers_more x.remembers (appended_one out to s);
        }

      module _ (high : 32768 ≤ s) (r : ℕ) (er : r ≡ s - 32768) (c : ℕ) (ec : c ≡ at counts r) where
        module _ (one : c ≡ 1) where
          one_left : left_words g cost counts levels a e todo i j ≡ rule_words g cost levels r 0 ++ left_words g cost counts levels a e todo (i + 1) j
          one_left = one_words g next cost choice lengths counts levels a e todo ok.measure i j x.along l s es high r er c ec one

          deep_r : deep_by g cost levels r ≡ true
          deep_r = along_deep g next cost choice lengths counts levels a e todo ok.measure i j x.along l s es high r er

          is_rule_law : r < g.rules
          is_rule_law = along_rule g next cost choice lengths counts levels a e todo ok.measure i j x.along l s es high r er

          pub writing_first : RuleReady g choice lengths levels r to begun out
          writing_first = first_ready g next cost choice lengths ok.measure.ground ok.measure.lengths_defined levels r is_rule_law deep_r to begun out
              (omega (arith, room, ap length one_left, length-append (rule_words g cost levels r 0) (left_words g cost counts levels a e todo (i + 1) j)))
              (omega (arith, low_room, ap length one_left, length-append (rule_words g cost levels r 0) (left_words g cost counts levels a e todo (i + 1) j)))
              x.remembers

          pub writing_one : (next' : ℕ) (then new : List ℕ) → Wrote g choice out to (expanded (denoted g) (choices_of choice) levels r) then new next' → Writing g cost choice counts levels a e todo at' old (i + 1) j next' then new
          writing_one next' then new h = record {
            along = along_one g next cost choice lengths counts levels a e todo ok.measure i j x.along l s es high r er c ec one;
            w = x.w ++ rule_words g cost levels r 0;
            wrote = appended_then x.wrote (first_wrote g next cost choice lengths ok.measure.ground ok.measure.lengths_defined levels r is_rule_law deep_r to next' out then new h).appends;
            whole = x.whole ∙ ap (λ z. x.w ++ z) one_left ∙ sym (append_assoc x.w (rule_words g cost levels r 0) (left_words g cost counts levels a e todo (i + 1) j));
            remembers = h.remembers;
          }

        module _ (d : c ≡ 1 → ⊥) (k : ℕ) (ek : k ≡ at todo j) where
          more_left : left_words g cost counts levels a e todo i j ≡ rule_words g cost levels r k ++ left_words g cost counts levels a e todo (i + 1) (j + 1)
          more_left = place_words g next cost choice lengths counts levels a e todo ok.measure i j x.along l s es high r er c ec d k ek

          pub writing_rule : RuleWritable g next cost choice lengths counts levels r k to begun out
          writing_rule = record {
            measure = along_number g next cost choice lengths counts levels a e todo ok.measure i j x.along l s es high r er c ec d k ek;
            room = omega (arith, room, ap length more_left, length-append (rule_words g cost levels r k) (left_words g cost counts levels a e todo (i + 1) (j + 1)));
            most = omega (arith, low_room, ap length more_left, length-append (rule_words g cost levels r k) (left_words g cost counts levels a e todo (i + 1) (j + 1)));
            remembers = x.remembers;
          }

          pub writing_on : (next' : ℕ) (then new : List ℕ) → Wrote g choice out to (rule_words g cost levels r k) then new next' → Writing g cost choice counts levels a e todo at' old (i + 1) (j + 1) next' then new
          writing_on next' then new h = record {
            along = along_more g next cost choice lengths counts levels a e todo ok.measure i j x.along l s es high r er c ec d;
            w = x.w ++ rule_words g cost levels r k;
            wrote = appended_then x.wrote h.appends;
            whole = x.whole ∙ ap (λ z. x.w ++ z) more_left ∙ sym (append_assoc x.w (rule_words g cost levels r k) (left_words g cost counts levels a e todo (i + 1) (j + 1)));
            remembers = h.remembers;
          }

-- a rule
module _ (g : Flat) (next cost choice lengths counts : List ℕ) (levels r k at' : ℕ) (begun out : List ℕ) (ok : RuleWritable g next cost choice lengths counts levels r k at' begun out) where
  module _ (z : k ≡ 0) where
    pub written_ready : RuleReady g choice lengths levels r at' begun out
    written_ready = first_ready g next cost choice lengths ok.measure.numbered.ground ok.measure.lengths_defined levels r ok.measure.numbered.is_rule ok.measure.numbered.within at' begun out
        (omega (arith, ok.room, ap (λ (i : ℕ). length (rule_words g cost levels r i)) z))
        (omega (arith, ok.most, ap (λ (i : ℕ). length (rule_words g cost levels r i)) z))
        ok.remembers

    pub written_first : (x : ℕ) (then new : List ℕ) → Wrote g choice out at' (expanded (denoted g) (choices_of choice) levels r) then new x → Wrote g choice out at' (rule_words g cost levels r k) then new x
    written_first x then new h = subst (λ (i : ℕ). Wrote g choice out at' (rule_words g cost levels r i) then new x) (sym z) (first_wrote g next cost choice lengths ok.measure.numbered.ground ok.measure.lengths_defined levels r ok.measure.numbered.is_rule ok.measure.numbered.within at' x out then new h)

  module _ (p : ℕ) (todo : List ℕ) (f : Finds g cost counts (levels - 1) r k p todo) (a e : ℕ) (ea : a ≡ at g.starts p) (ee : e ≡ at g.starts (p + 1)) where
    same : rule_words g cost levels r k ≡ production_words g cost counts (levels - 1) a e todo
    same = measured_words g next cost choice lengths counts levels r k ok.measure p todo f a e ea ee

    pub written_production : ProductionWritable g next cost choice lengths counts (levels - 1) a e todo at' begun out
    written_production = record {
      measure = measured_production g next cost choice lengths counts levels r k ok.measure p todo f a e ea ee;
      room = omega (arith, ok.room, ap length same);
      most = omega (arith, ok.most, ap length same);
      remembers = ok.remembers;
    }

    pub written_is : (x : ℕ) (then new : List ℕ) → Wrote g choice out at' (production_words g cost counts (levels - 1) a e todo) then new x → Wrote g choice out at' (rule_words g cost levels r k) then new x
    written_is x then new h = subst (λ z. Wrote g choice out at' z then new x) (sym same) h
