-- Each entry becomes what it is at the end, one after another.
use mathlib.Core.List.{List}
use mathlib.Core.Path.{◌≡◌, refl, sym, ◌∙◌, ap}
use Prim.Native.Nat.{ℕ, ◌+◌, ◌≤◌, ◌<◌}
use native.Mathlib.Decide.{ℕ_discrete}
use native.Mathlib.Omega.{arith}
use lib.ListN.{length, set, length-set}
use lib.Seq.{get_or-set_same, get_or-set_other}
use Rattle.theory.specs.DearestVisits.{ends_as}
use Rattle.grammar.specs.Flat.{at}
use Rattle.dearest.specs.Rounds.{Finishes}

-- those below i are at their end, the others as they were
pub record Finished (before : List ℕ) (i : ℕ) (now : List ℕ) : Type 0 where
  pub long : length now ≡ length before
  pub upto : i ≤ length before
  pub done : (r : ℕ) → r < i → at now r ≡ ends_as (at before r)
  pub left : (r : ℕ) → i ≤ r → at now r ≡ at before r

module _ (before : List ℕ) where
  pub finish_start : Finished before 0 before
  finish_start = record { long = refl; upto = omega arith; done = λ r l. absurd (omega arith); left = λ r l. refl }

  module _ (i : ℕ) (now : List ℕ) (m : Finished before i now) where
    pub finish_on : i < length now → (x y : ℕ) → x ≡ at now i → y ≡ ends_as x → Finished before (i + 1) (set now i y)
    finish_on l x y ex ey = record {
      long = length-set now i y ∙ m.long;
      upto = omega (arith, m.long);
      done = λ r lr. elim (ℕ_discrete r i) [
        | yes e ↦ ap (at (set now i y)) e ∙ get_or-set_same now i y 0 l ∙ ey ∙ ap ends_as (ex ∙ m.left i (omega arith) ∙ ap (at before) (sym e))
        | no e ↦ get_or-set_other now i r y 0 e ∙ m.done r (omega arith)
      ];
      left = λ r lr. get_or-set_other now i r y 0 (λ e. omega arith) ∙ m.left r (omega arith);
    }

    pub finish_end : length now ≤ i → Finishes before now
    finish_end l = record { long = m.long; each = λ r lr. m.done r (omega (arith, m.long)) }
