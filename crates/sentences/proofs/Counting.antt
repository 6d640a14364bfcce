-- The token count of a stretch: the sum in which a token adds 1 and a rule its length.
use mathlib.Core.List.{List}
use mathlib.Core.Path.{◌≡◌, refl, sym, ap, ◌∙◌}
use Prim.Native.Nat.{ℕ, ◌+◌, ◌-◌, ◌≤◌, ◌<◌, min}
use native.Mathlib.Omega.{arith}
use lib.ListN.{length}
use Rattle.grammar.specs.Flat.{at, form}
use Rattle.engine.specs.Cost.{Part}
use Rattle.engine.proofs.Spans.{span, span_in, span_is}
use Rattle.engine.proofs.Summing.{default_same, token_part, rule_part, Summed, summed_start, summed_end, summed_unknown, summed_on}
use Rattle.sentences.specs.Lent.{lengths_of}
use Rattle.sentences.specs.Measuring.{count_of, SymbolCounted, Countable}

-- inside the list an entry is the number that stands there
pub length_entry : (ws : List ℕ) (r : ℕ) → r < length ws → lengths_of ws r ≡ at ws r
unfolding lengths_of
length_entry ws r l = default_same ws r 65537 0 l

-- `symbol_length`
module _ (lengths : List ℕ) (s : ℕ) (ok : SymbolCounted lengths s) where
  pub token_counts : s < 32768 → Part (λ t. 1) (lengths_of lengths) s 1
  token_counts low = token_part (λ t. 1) (lengths_of lengths) s 1 low refl (omega arith)

  module _ (high : 32768 ≤ s) (x : ℕ) (ex : x ≡ s - 32768) where
    pub rule_in : x < length lengths
    rule_in = omega (arith, ok.rule high)

    pub rule_counts : (n : ℕ) → n ≡ at lengths x → Part (λ t. 1) (lengths_of lengths) s n
    rule_counts n e = rule_part (λ t. 1) (lengths_of lengths) s n high (e ∙ sym (length_entry lengths x rule_in) ∙ ap (lengths_of lengths) ex)

-- `count`
abbrev pub Counted : (symbols : List ℕ) (a e : ℕ) (lengths : List ℕ) (i n : ℕ) → Type 0
Counted symbols a e lengths i n = Summed (λ t. 1) (lengths_of lengths) symbols a e i n

module _ (symbols : List ℕ) (a e : ℕ) (lengths : List ℕ) (ok : Countable symbols a e lengths) where
  pub counted_start : Counted symbols a e lengths 0 0
  counted_start = summed_start (λ t. 1) (lengths_of lengths) symbols a e ok.rise ok.fits

  module _ (i n : ℕ) (m : Counted symbols a e lengths i n) where
    pub counted_end : length (span symbols a e) ≤ i → n ≡ count_of lengths (form symbols a e)
    unfolding count_of
    counted_end h = sym (summed_end (λ t. 1) (lengths_of lengths) symbols a e ok.rise ok.fits i n m h)

    module _ (h : i < length (span symbols a e)) (s : ℕ) (is : s ≡ at (span symbols a e) i) where
      pub counted_symbol : SymbolCounted lengths s
      counted_symbol = rw (span_is symbols a e ok.fits i h s is) (ok.symbol (a + i) (omega (arith, ok.fits, span_in symbols a e ok.fits i h)))

      module _ (x : ℕ) (p : Part (λ t. 1) (lengths_of lengths) s x) where
        pub counted_unknown : 65536 < x → 65537 ≡ count_of lengths (form symbols a e)
        unfolding count_of
        counted_unknown l = sym (summed_unknown (λ t. 1) (lengths_of lengths) symbols a e ok.rise ok.fits i n m h s is x p l)

        pub counted_on : x ≤ 65536 → (to : ℕ) → to ≡ min (n + x) 65536 → Counted symbols a e lengths (i + 1) to
        counted_on = summed_on (λ t. 1) (lengths_of lengths) symbols a e ok.rise ok.fits i n m h s is x p
