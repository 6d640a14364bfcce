-- The sum of a stretch that marks what it reads: by each table that agrees on what was read it is the same.
use mathlib.Core.Bool.{Bool, true, false}
use mathlib.Core.List.{List}
use mathlib.Core.Path.{◌≡◌, refl, sym, ap, ◌∙◌}
use Prim.Native.Nat.{ℕ, ◌+◌, ◌-◌, ◌≤◌, ◌<◌, min}
use native.Mathlib.Decide.{ℕ_discrete}
use native.Mathlib.Omega.{arith}
use lib.Dec.{leb}
use lib.ListN.{length, get_or, set, length-set}
use borrow.Author.Tests.{leb-true, leb-false}
use lib.Seq.{get_or-set_same, get_or-set_other}
use Rattle.theory.specs.Visits.{Costs}
use Rattle.grammar.specs.Flat.{at, form}
use Rattle.engine.specs.Cost.{costs_of, Agrees, Adds, Readable, ReadsCost, Summable, ReadsSum}
use Rattle.engine.proofs.Spans.{span, span_in, span_is}
use Rattle.engine.proofs.Summing.{entry, token_part, rule_part, Summed, summed_start, summed_end, summed_least, summed_unknown, summed_on}

pub adds_none : (read : List Bool) → Adds read read
adds_none read = record { long = refl; keeps = λ r e. e }

pub adds_then : {a b d : List Bool} → Adds a b → Adds b d → Adds a d
adds_then x y = record { long = y.long ∙ x.long; keeps = λ r e. y.keeps r (x.keeps r e) }

-- one rule more
adds_one : (read : List Bool) (x : ℕ) → x < length read → Adds read (set read x true)
adds_one read x lt = record { long = length-set read x true; keeps = λ r e. go r e (ℕ_discrete r x) }
  where
    go : (r : ℕ) → get_or read r false ≡ true → Dec (r ≡ x) → get_or (set read x true) r false ≡ true
    go r e (yes n) = rw n (get_or-set_same read x true false lt)
    go r e (no n) = get_or-set_other read x r true false n ∙ e

-- `read_cost`
module _ (costs cost : List ℕ) (s : ℕ) (read : List Bool) (ok : Readable costs cost s read) (x : ℕ) where
  module _ (low : s < 32768) (ex : x ≡ s) where
    pub read_token : x < length costs
    read_token = omega (arith, ok.priced.token low)

    pub reads_token : (n : ℕ) → n ≡ at costs x → n < 256 → ReadsCost costs cost s read n read
    reads_token n e l = record { adds = adds_none read; same = λ d a. token_part (at costs) d s n low (e ∙ ap (at costs) ex) (omega arith) }

  module _ (high : 32768 ≤ s) (ex : x ≡ s - 32768) where
    pub read_rule : x < length cost
    read_rule = omega (arith, ok.priced.rule high)

    pub read_few : x < 512
    read_few = omega (arith, read_rule, ok.few)

    read_place : x < length read
    read_place = omega (arith, read_few, ok.long)

    pub reads_rule : (n : ℕ) → n ≡ at cost x → ReadsCost costs cost s read n (set read x true)
    reads_rule n e = record {
      adds = adds_one read x read_place;
      same = λ d a. rule_part (at costs) d s n high (e ∙ sym (entry cost x read_rule) ∙ sym (a x (get_or-set_same read x true false read_place)) ∙ ap d ex);
    }

-- before number i of `symbols[a..e]`: n is the sum so far, at most `top`, by each table that agrees on what is read by now
pub record SummedRead (symbols costs : List ℕ) (a e : ℕ) (cost : List ℕ) (read : List Bool) (top i n : ℕ) (now : List Bool) : Type 0 where
  pub cap : n ≤ top
  pub upto : n ≤ 65536
  pub adds : Adds read now
  pub sums : (d : Costs) → Agrees now d (costs_of cost) → Summed (at costs) d symbols a e i n

-- `sum_to`
module _ (symbols costs : List ℕ) (a e : ℕ) (cost : List ℕ) (read : List Bool) (top : ℕ) (ok : Summable symbols costs a e cost top read) where
  pub reading_start : SummedRead symbols costs a e cost read top 0 0 read
  reading_start = record { cap = omega arith; upto = omega arith; adds = adds_none read; sums = λ d g. summed_start (at costs) d symbols a e ok.pricing.rise ok.pricing.fits }

  module _ (i n : ℕ) (now : List Bool) (m : SummedRead symbols costs a e cost read top i n now) where
    pub reading_end : length (span symbols a e) ≤ i → ReadsSum top costs cost (form symbols a e) read n now
    reading_end h = record {
      adds = m.adds;
      same = λ d g. omega (arith, m.cap, summed_end (at costs) d symbols a e ok.pricing.rise ok.pricing.fits i n (m.sums d g) h);
    }

    module _ (h : i < length (span symbols a e)) (s : ℕ) (is : s ≡ at (span symbols a e) i) where
      pub reading_ready : Readable costs cost s now
      reading_ready = record { priced = rw (span_is symbols a e ok.pricing.fits i h s is) (ok.pricing.symbol (a + i) (omega (arith, ok.pricing.fits, span_in symbols a e ok.pricing.fits i h))); few = ok.few; long = m.adds.long ∙ ok.long }

      module _ (x : ℕ) (next : List Bool) (c : ReadsCost costs cost s now x next) where
        before : (d : Costs) → Agrees next d (costs_of cost) → Summed (at costs) d symbols a e i n
        before d g = m.sums d (λ r z. g r (c.adds.keeps r z))

        pub reading_unknown : 65536 < x → ReadsSum top costs cost (form symbols a e) read top next
        reading_unknown k = record {
          adds = adds_then m.adds c.adds;
          same = λ d g. omega (arith, ok.upto, summed_unknown (at costs) d symbols a e ok.pricing.rise ok.pricing.fits i n (before d g) h s is x (c.same d g) k);
        }

        module _ (k : x ≤ 65536) where
          module _ (to : ℕ) (q : to ≡ min (n + x) 65536) where
            after : (d : Costs) → Agrees next d (costs_of cost) → Summed (at costs) d symbols a e (i + 1) to
            after d g = summed_on (at costs) d symbols a e ok.pricing.rise ok.pricing.fits i n (before d g) h s is x (c.same d g) k to q

            pub reading_over : top ≤ to → ReadsSum top costs cost (form symbols a e) read top next
            reading_over l = record {
              adds = adds_then m.adds c.adds;
              same = λ d g. omega (arith, summed_least (at costs) d symbols a e ok.pricing.rise ok.pricing.fits (i + 1) to (after d g));
            }

            pub reading_on : to < top → SummedRead symbols costs a e cost read top (i + 1) to next
            reading_on l = record { cap = omega arith; upto = omega arith; adds = adds_then m.adds c.adds; sums = after }

        -- a part that is less than what is left of `top` is added
        pub reading_below : x < top - n → (to : ℕ) → to ≡ n + x → SummedRead symbols costs a e cost read top (i + 1) to next
        reading_below l to q = let k : x ≤ 65536 = omega (arith, ok.upto) in reading_on k to (omega (arith, ok.upto)) (omega arith)

        module _ (l : top - n ≤ x) where
          -- any other makes the sum come to a `top` that is known, an unknown part too
          pub reading_known : top ≤ 65536 → ReadsSum top costs cost (form symbols a e) read top next
          reading_known f = go (leb x 65536) refl
            where
              go : (b : Bool) → leb x 65536 ≡ b → ReadsSum top costs cost (form symbols a e) read top next
              go true q = reading_over (leb-true x 65536 q) (min (n + x) 65536) refl (omega arith)
              go false q = reading_unknown (leb-false x 65536 q)

          -- and a known one, where `top` is unknown, makes it dear
          pub reading_cut : 65536 < top → x ≤ 65536 → SummedRead symbols costs a e cost read top (i + 1) 65536 next
          reading_cut f k = reading_on k 65536 (omega arith) (omega arith)
