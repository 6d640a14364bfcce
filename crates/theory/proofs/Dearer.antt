-- What a dearer token does, from the definitions alone.
use mathlib.Core.List.{List, [], ◌∷◌}
use mathlib.Core.Logic.{inl, inr}
use mathlib.Core.Path.{◌≡◌, ap}
use Prim.Native.Nat.{ℕ, ◌+◌, ◌*◌}
use native.Mathlib.Decide.{dec_le}
use native.Mathlib.Nat.{mul-add}
use native.Mathlib.Omega.{arith}
use lib.Dec.{eqb}
use borrow.Author.Tests.{eqb-true, eqb-false}
use Rattle.theory.specs.Grammar.{Grammar}
use Rattle.theory.specs.Definitions.{cost_of, Cost}
use Rattle.theory.specs.Dearer.{GoesUp, occurs, Dearer}
use Rattle.theory.proofs.Bools.{tested}

module _ {k k' : ℕ → ℕ} {t d : ℕ} (h : GoesUp k t d k') where
  -- a sentence's cost goes up by d for each t in it
  pub raised_cost : (w : List ℕ) → cost_of k' w ≡ cost_of k w + d * occurs t w
  raised_cost [] = omega arith
  raised_cost (s ∷ w) = elim (tested (eqb s t)) [
    | inl e ↦ let q = eqb-true s t e in rw e (omega (arith, h.up, ap k q, ap k' q, mul-add d 1 (occurs t w), raised_cost w))
    | inr e ↦ rw e (omega (arith, h.same s (eqb-false s t e), mul-add d 0 (occurs t w), raised_cost w))
  ]

  -- so a rule's cost goes up, by no more than any one cheapest sentence does
  pub dearer : {g : Grammar} {r m n : ℕ} → Cost g k r m → Cost g k' r n → Dearer g k t d r m n
  dearer {g} {r} {m} {n} x y = record {
    rises = elim (dec_le n 65535) [
      | yes l ↦ let b = y.met l in omega (arith, x.least b.0 b.1, b.2, raised_cost b.0)
      | no l ↦ elim (dec_le n 65536) [ yes j ↦ let b = y.known j in omega (arith, x.least b.0 b.1) | no j ↦ omega (arith, x.cap) ]
    ];
    upto = λ w s e l. omega (arith, y.least w s, e, raised_cost w);
    none = λ e. elim (dec_le n 65536) [ yes j ↦ let b = y.known j in absurd (omega (arith, x.least b.0 b.1)) | no j ↦ omega (arith, y.cap) ];
    only = λ e. elim (dec_le m 65536) [ yes j ↦ let b = x.known j in absurd (omega (arith, y.least b.0 b.1)) | no j ↦ omega (arith, x.cap) ];
  }
