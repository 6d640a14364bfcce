-- A run of eight words joined to a row.
use mathlib.Core.Bool.{not}
use mathlib.Core.List.{List}
use mathlib.Core.Path.{◌≡◌, ◌∙◌, ap, subst}
use Prim.Native.Nat.{ℕ, ◌+◌, ◌*◌, ◌/◌, ◌%◌, ◌≤◌, ◌<◌}
use native.Mathlib.Omega.{arith}
use lib.Bits.{bit_or}
use lib.Dec.{eqb}
use lib.ListN.{length, get_or}
use Rattle.rows.specs.Marks.{bit, mark, Copied, JoinedWord, Joins}
use Rattle.rows.proofs.Join.{join_as, own_bits, join_word}

-- the words of run i below k are joined: one more, which was read at the start
module _ (T W a b i : ℕ) (start : List ℕ) (wide : T ≤ W * 32) (lt : i < T / 256) (words : List ℕ) (reads : Copied 8 start (a * W + i * 8) words) where
  pub run_more : (k new all more : ℕ) (now to : List ℕ) → b * W + W ≤ length now → k < 8 → Joins T W a b (i * 8 * 32) new start ((i * 8 + k) * 32) all now → JoinedWord now (b * W + i * 8 + k) (get_or words k 0) more to
      → Joins T W a b (i * 8 * 32) new start ((i * 8 + (k + 1)) * 32) (bit_or all more) to
  run_more k new all more now to inside l h joined ws j =
      join_as (omega arith)
      (join_word T W ws (mark W ws a) b wide now to inside (i * 8 + k) (get_or words k 0) all more (h ws j) (rw (reads k l) (j.raised.small (a * W + i * 8 + k))) bits (omega arith)
      (subst (λ z. JoinedWord now z (get_or words k 0) more to) (let e : b * W + i * 8 + k ≡ b * W + (i * 8 + k) = omega arith in e) joined))
    where
      bits : (t : ℕ) → t < T → t / 32 ≡ i * 8 + k → bit (get_or words k 0) (t % 32) ≡ mark W ws a t
      bits t lt e =
          rw (reads k l)
          (ap (λ z. bit (get_or start z 0) (t % 32)) (let q : a * W + i * 8 + k ≡ a * W + (i * 8 + k) = omega arith in q) ∙ own_bits T W ws start (mark W ws a) a b (i * 8 * 32) (i * 8 + k) (not (eqb new 0)) wide j (omega arith) t lt e)
