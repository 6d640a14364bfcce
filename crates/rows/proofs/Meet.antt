-- Marks that two rows share, a word at a time.
use mathlib.Core.Bool.{Bool, true, false, ◌&&◌}
use mathlib.Core.List.{List}
use mathlib.Core.Path.{◌≡◌, refl, sym, ◌∙◌, ap, subst}
use Prim.Native.Nat.{ℕ, ◌+◌, ◌*◌, ◌/◌, ◌%◌, ◌<◌}
use native.Mathlib.Omega.{arith}
use lib.Arith.{digits_div, digits_mod}
use lib.Bits.{bit_and, and_le_l}
use lib.ListN.{length, get_or}
use Rattle.std.specs.Bool.{MatchBool}
use Rattle.std.specs.List.{AllWithin, HoldsAt, range_with_len}
use Rattle.std.proofs.lemmas.List.FromFn.{length-range_with_len, get_or-range_with_len}
use Rattle.theory.specs.Below.{some}
use Rattle.theory.proofs.Below.{some_at, all_none}
use Rattle.rows.specs.Marks.{bit, mark, Small}
use Rattle.rows.proofs.Bits.{bit_and_law, bit_none, word_apart}
use Rattle.rows.proofs.Join.{from_bits}

module _ (W : ℕ) (us : List ℕ) (a : ℕ) (ws : List ℕ) (b : ℕ) where
  abbrev both : ℕ → Bool
  both t = mark W us a t && mark W ws b t

  abbrev pub word : ℕ → ℕ
  word i = bit_and (get_or us (a * W + i) 0) (get_or ws (b * W + i) 0)

  both_bits : (i t : ℕ) → t / 32 ≡ i → bit (word i) (t % 32) ≡ both t
  both_bits i t e = bit_and_law (get_or us (a * W + i) 0) (get_or ws (b * W + i) 0) (t % 32) ∙ rw (from_bits W us a i t e, from_bits W ws b i t e)

  pub meet_yes : Small us → (i : ℕ) → i < W → (word i ≡ 0 → ⊥) → true ≡ some (W * 32) both
  meet_yes small i lw h =
      let x = word_apart 32 (word i) 0 (omega (arith, small (a * W + i), and_le_l (get_or us (a * W + i) 0) (get_or ws (b * W + i) 0))) (omega arith) h in
      let v : (i * 32 + x.at) / 32 ≡ i = digits_div i x.below in
      let k : (i * 32 + x.at) % 32 ≡ x.at = digits_mod i x.below in
      sym (some_at both (W * 32) (i * 32 + x.at) (omega (arith, x.below)) (sym (both_bits i (i * 32 + x.at) v) ∙ ap (bit (word i)) k ∙ lit (bit (word i) x.at) refl (λ e. x.differs (e ∙ sym (bit_none x.at)))))
    where
      lit : (c : Bool) {d : Bool} → d ≡ c → (d ≡ false → ⊥) → d ≡ true
      lit true e n = e
      lit false e n = absurd (n e)

  pub meet_no : ((i : ℕ) → i < W → word i ≡ 0) → false ≡ some (W * 32) both
  meet_no h = sym (all_none both (W * 32) (λ t lt. sym (both_bits (t / 32) t refl) ∙ ap (λ z. bit z (t % 32)) (h (t / 32) (omega arith)) ∙ bit_none (t % 32)))

  at : (k : ℕ) → k < W → get_or (range_with_len 0 W) k 0 ≡ k
  at k lw = omega (arith, get_or-range_with_len 0 W k 0 lw)

  -- what `any` answers over the words' numbers: some word has bits that both share, or none has
  pub meet : Small us → (r : Bool) → MatchBool r ((k : ℕ) × (k < length (range_with_len 0 W)) × HoldsAt (λ i. word i ≡ 0 → ⊥) (range_with_len 0 W) k) (AllWithin (λ i. word i ≡ 0) (range_with_len 0 W) 0 (length (range_with_len 0 W))) → r ≡ some (W * 32) both
  meet small true (k, l, h) =
      let lw : k < W = omega (arith, length-range_with_len 0 W) in
      meet_yes small k lw (subst (λ i. word i ≡ 0 → ⊥) (at k lw) (h 0))
  meet small false h = meet_no (λ i lw. subst (λ i. word i ≡ 0) (at i lw) (h i 0 (omega arith) (omega (arith, length-range_with_len 0 W))))
