-- The loop that finds the dearest costs: R rounds at most, then rounds beyond them, until one changes nothing.
use mathlib.Core.Bool.{Bool, true, false, cond, true≢false}
use mathlib.Core.List.{List}
use mathlib.Core.Logic.{◌⊎◌, inl, inr}
use mathlib.Core.Path.{◌≡◌, refl, sym, ap, subst}
use Prim.Native.Nat.{ℕ, suc, ◌+◌, ◌-◌, ◌*◌, ◌≤◌, ◌<◌, min}
use native.Mathlib.Omega.{arith}
use lib.Dec.{leb}
use borrow.Author.Tests.{leb-true, leb-false}
use Rattle.theory.specs.Grammar.{Grammar}
use Rattle.theory.specs.Visits.{Costs}
use Rattle.theory.specs.Rounds.{run, Valid, Round}
use Rattle.theory.specs.Tables.{Proper}
use Rattle.theory.specs.Dearest.{Dearest}
use Rattle.theory.specs.DearestVisits.{no_bound, add_up, dearest_visit, dearest_cleared, ends_as}
use Rattle.theory.proofs.Rounds.{run_keeps, run_grows}
use Rattle.theory.proofs.Count.{count_upto}
use Rattle.theory.proofs.DearestLevels.{level_dearest}
use Rattle.theory.proofs.Dearest.{Limits, Backed, Beyond, Covered, cleared_backed, early_backed, beyond_kept, backed_exact, rest_covered, round_reach}
use Rattle.theory.proofs.DearestRounds.{Risen, cleared_risen, risen_kept, dearest_climb, beyond_climb, boundless, ends_up}

-- i rounds, of the first R, were made; `changed` is whether the last one changed something
pub record Stage (g : Grammar) (k : ℕ → ℕ) (ok : Proper g) (lim : Limits g k) (i : ℕ) (changed : Bool) (c : Costs) : Type 0 where
  pub upto : i ≤ g.rules
  pub backed : Backed g k ok lim c
  pub risen : Risen g.rules c
  pub deep : changed ≡ true → (r : ℕ) → level_dearest add_up g k i r ≤ c r
  pub rest : changed ≡ false → Covered g k c

-- what is left to do: one for each of the first R rounds, one for each entry that can go to `no_bound`, and one for a round that changes nothing
abbrev pub stage_left : Grammar → ℕ → Bool → Costs → ℕ
stage_left g i changed c = cond changed (g.rules - i + (g.rules - boundless g c) + 1) 0

-- at most 2R + 1 rounds
pub stage_most : (g : Grammar) (i : ℕ) (changed : Bool) (c : Costs) → stage_left g i changed c ≤ 2 * g.rules + 1
stage_most g i true c = omega arith
stage_most g i false c = omega arith

module _ (g : Grammar) (k : ℕ → ℕ) (ok : Proper g) (lim : Limits g k) where
  pub stage_start : Stage g k ok lim 0 true dearest_cleared
  stage_start = record { upto = omega arith; backed = cleared_backed g k ok lim; risen = cleared_risen g k ok; deep = λ e r. omega arith; rest = λ e. absurd (true≢false e) }

  pub stage_end : {i : ℕ} {c : Costs} → Stage g k ok lim i false c → (r : ℕ) → Dearest g k r (ends_as (c r))
  stage_end {c = c} s = backed_exact g k ok lim c s.backed (s.rest refl)

  -- visits beyond R rounds change nothing, or one entry more is `no_bound`
  beyond_more : (v : List ℕ) → Valid g.prods v → (c : Costs) → Risen g.rules c → (run (dearest_visit g k true) v c ≡ c) ⊎ (boundless g c < boundless g (run (dearest_visit g k true) v c))
  unfolding beyond_climb
  beyond_more v h c i = elim (run_grows (beyond_climb g k ok) v h c i) [ inl m ↦ inl m.1 | inr l ↦ inr l ]

  module _ (v : List ℕ) (rd : Round g.prods v) (i : ℕ) (c : Costs) (s : Stage g k ok lim i true c) where
    after : (beyond : Bool) → leb g.rules i ≡ beyond → Backed g k ok lim (run (dearest_visit g k beyond) v c) × ((r : ℕ) → level_dearest add_up g k (min (i + 1) g.rules) r ≤ run (dearest_visit g k beyond) v c r)
    after false e =
        let l = leb-false g.rules i e in (
          run_keeps (dearest_visit g k false) g.prods (Backed g k ok lim) (early_backed g k ok lim) v rd.valid c s.backed,
          λ r. subst (λ z. level_dearest add_up g k z r ≤ run (dearest_visit g k false) v c r) (let q : suc i ≡ min (i + 1) g.rules = omega arith in q) (round_reach g k ok lim false i (omega (arith, lim.few)) v rd c (s.deep refl) r),
        )
    after true e =
        let q : i ≡ g.rules = omega (arith, leb-true g.rules i e, s.upto) in
        let h : Beyond g k ok lim c = record { backed = s.backed; deep = λ r. subst (λ z. level_dearest add_up g k z r ≤ c r) q (s.deep refl r) } in
        let m = run_keeps (dearest_visit g k true) g.prods (Beyond g k ok lim) (beyond_kept g k ok lim) v rd.valid c h in
        (m.backed, λ r. subst (λ z. level_dearest add_up g k z r ≤ run (dearest_visit g k true) v c r) (let q : g.rules ≡ min (i + 1) g.rules = omega arith in q) (m.deep r))

    -- one round more; a round that changed nothing leaves a table at rest
    pub stage_on : (beyond changed : Bool) → beyond ≡ leb g.rules i → (changed ≡ false → run (dearest_visit g k beyond) v c ≡ c) → Stage g k ok lim (min (i + 1) g.rules) changed (run (dearest_visit g k beyond) v c)
    stage_on beyond changed e still =
        let a = after beyond (sym e) in
        record {
          upto = omega arith;
          backed = a.0;
          risen = run_keeps (dearest_visit g k beyond) g.prods (Risen g.rules) (risen_kept g k ok beyond) v rd.valid c s.risen;
          deep = λ _. a.1;
          rest = λ z. rw (still z) (elim (run_grows (dearest_climb g k ok beyond) v rd.valid c s.risen) [
            | inl h ↦ rest_covered g k beyond c (λ p lt. h.0 p (rd.all p lt))
            | inr l ↦ absurd (omega (arith, ap (dearest_climb g k ok beyond).size (still z)))
          ]);
        }

    -- and less is left
    pub stage_less : (beyond changed : Bool) → beyond ≡ leb g.rules i → (changed ≡ true → run (dearest_visit g k beyond) v c ≡ c → ⊥) → stage_left g (min (i + 1) g.rules) changed (run (dearest_visit g k beyond) v c) < stage_left g i true c
    stage_less beyond true e told = go beyond (sym e) (told refl)
      where
        go : (beyond : Bool) → leb g.rules i ≡ beyond → (run (dearest_visit g k beyond) v c ≡ c → ⊥) → g.rules - min (i + 1) g.rules + (g.rules - boundless g (run (dearest_visit g k beyond) v c)) + 1 < g.rules - i + (g.rules - boundless g c) + 1
        go false e t = omega (arith, leb-false g.rules i e, ends_up g k false v c)
        go true e t = elim (beyond_more v rd.valid c s.risen) [
          | inl h ↦ absurd (t h)
          | inr l ↦ omega (arith, leb-true g.rules i e, l, count_upto g.rules (λ r. leb no_bound (run (dearest_visit g k true) v c r)))
        ]
    stage_less beyond false e told = omega arith
