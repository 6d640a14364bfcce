-- The places of a stretch that have a choice, symbol by symbol: those so far, and those left.
use mathlib.Core.Bool.{cond}
use mathlib.Core.List.{List, [], ◌∷◌, ◌++◌, append-nil, append_assoc}
use mathlib.Core.Path.{◌≡◌, sym, ap, ◌∙◌}
use Prim.Native.Nat.{ℕ, ◌+◌, ◌-◌, ◌≤◌, ◌<◌}
use native.Mathlib.Nat.{add-zero}
use native.Mathlib.Numerals.{add-one}
use native.Mathlib.Omega.{arith}
use lib.ListN.{length, take, set, length-set, length-append}
use lib.Seq.{length-take-le, take-suc-set}
use borrow.Author.Tests.{eq-eqb, ne_eqb}
use Rattle.theory.specs.Grammar.{rul}
use Rattle.theory.specs.Odometer.{places}
use Rattle.grammar.specs.Flat.{at, form}
use Rattle.engine.proofs.Spans.{span, span_done, span_in, span_is, span_token, span_rule}
use Rattle.listings.specs.Calls.{counts_of}
use Rattle.listings.specs.Numbers.{PlacesReady, Places}
use Rattle.listings.proofs.Counting.{count_entry}

-- before number i of `symbols[a..e]`: the first m numbers are the places of the symbols so far
pub record Placing (symbols : List ℕ) (a e : ℕ) (counts : List ℕ) (i m : ℕ) (bases : List ℕ) : Type 0 where
  pub high : a + i ≤ e
  pub most : m ≤ 16
  pub room : length bases ≡ 16
  pub is : take m bases ++ places (counts_of counts) (form symbols (a + i) e) ≡ places (counts_of counts) (form symbols a e)

module _ (symbols : List ℕ) (a e : ℕ) (counts old : List ℕ) (ok : PlacesReady symbols a e counts old) where
  pub placing_start : Placing symbols a e counts 0 0 old
  placing_start = record { high = omega (arith, ok.rise); most = omega arith; room = ok.room; is = rw (add-zero a) }

  module _ (i m : ℕ) (bases : List ℕ) (x : Placing symbols a e counts i m bases) where
    front : length (take m bases) ≡ m
    front = length-take-le m bases (omega (arith, x.most, x.room))

    pub placing_end : length (span symbols a e) ≤ i → Places symbols a e counts m bases
    placing_end l =
        let d : take m bases ≡ places (counts_of counts) (form symbols a e) = sym (append-nil (take m bases)) ∙ ap (λ z. take m bases ++ places (counts_of counts) z) (sym (span_done symbols a e ok.inside i x.high l)) ∙ x.is in
        record { many = sym front ∙ ap length d; room = x.room; is = d }

    module _ (l : i < length (span symbols a e)) (s : ℕ) (es : s ≡ at (span symbols a e) i) where
      below : a + i < e
      below = span_in symbols a e ok.inside i l

      pub placing_token : s < 32768 → Placing symbols a e counts (i + 1) m bases
      placing_token low = record {
        high = omega (arith, below);
        most = x.most;
        room = x.room;
        is = ap (λ z. take m bases ++ places (counts_of counts) z) (sym (span_token symbols a e ok.inside i l s es low)) ∙ x.is;
      }

      module _ (high : 32768 ≤ s) (r : ℕ) (er : r ≡ s - 32768) where
        opens : form symbols (a + i) e ≡ rul r ∷ form symbols (a + (i + 1)) e
        opens = rw er (span_rule symbols a e ok.inside i l s es high)

        pub placing_entry : r < length counts
        placing_entry = omega (arith, (ok.symbol (a + i) (omega (arith, ok.inside, below))).rule (omega (arith, span_is symbols a e ok.inside i l s es)), span_is symbols a e ok.inside i l s es)

        module _ (n : ℕ) (en : n ≡ at counts r) where
          held : counts_of counts r ≡ n
          held = count_entry counts r placing_entry ∙ sym en

          -- a rule with one sentence is no place
          pub placing_one : n ≡ 1 → Placing symbols a e counts (i + 1) m bases
          placing_one k =
              let one : places (counts_of counts) (form symbols (a + i) e) ≡ places (counts_of counts) (form symbols (a + (i + 1)) e) = ap (places (counts_of counts)) opens ∙ rw (eq-eqb (counts_of counts r) 1 (held ∙ k)) in
              record { high = omega (arith, below); most = x.most; room = x.room; is = ap (λ z. take m bases ++ z) (sym one) ∙ x.is }

          module _ (d : n ≡ 1 → ⊥) where
            more : places (counts_of counts) (form symbols (a + i) e) ≡ n ∷ places (counts_of counts) (form symbols (a + (i + 1)) e)
            more =
                ap (places (counts_of counts)) opens
                ∙ ap (λ b. cond b (places (counts_of counts) (form symbols (a + (i + 1)) e)) (counts_of counts r ∷ places (counts_of counts) (form symbols (a + (i + 1)) e))) (ne_eqb (counts_of counts r) 1 (λ z. d (sym held ∙ z)))
                ∙ ap (λ z. z ∷ places (counts_of counts) (form symbols (a + (i + 1)) e)) held

            pub placing_place : m < 16
            placing_place = omega (arith, ok.few, ap length x.is, length-append (take m bases) (places (counts_of counts) (form symbols (a + i) e)), front, ap length more)

            pub placing_more : Placing symbols a e counts (i + 1) (m + 1) (set bases m n)
            placing_more =
                let shown : take (m + 1) (set bases m n) ≡ take m bases ++ (n ∷ []) = rw add-one (take-suc-set bases m n (omega (arith, placing_place, x.room))) in
                record {
                  high = omega (arith, below);
                  most = omega (arith, placing_place);
                  room = length-set bases m n ∙ x.room;
                  is =
                      ap (λ z. z ++ places (counts_of counts) (form symbols (a + (i + 1)) e)) shown
                      ∙ append_assoc (take m bases) (n ∷ []) (places (counts_of counts) (form symbols (a + (i + 1)) e))
                      ∙ ap (λ z. take m bases ++ z) (sym more)
                      ∙ x.is;
                }
