-- One production's step of the dearest costs: what it asks of what it calls, and what it leaves.
use mathlib.Core.Bool.{Bool, true, false, cond, false≢true}
use mathlib.Core.List.{List}
use mathlib.Core.Logic.{◌⊎◌, inl, inr}
use mathlib.Core.Path.{◌≡◌, refl, sym, ap, ◌∙◌}
use Prim.Native.Nat.{ℕ, ◌+◌, ◌≤◌, ◌<◌, min}
use native.Mathlib.Decide.{ℕ_discrete}
use native.Mathlib.Omega.{arith}
use lib.Dec.{eqb}
use lib.ListN.{length, set, length-set}
use lib.Seq.{get_or-set_same, get_or-set_other}
use borrow.Author.Tests.{eq-eqb, ne_eqb, lt-ltb, le-ltb}
use Rattle.theory.specs.DearestVisits.{no_bound, add_up, form_dearest, lifted, dearest_visit}
use Rattle.grammar.specs.Flat.{Flat, flat, at, ProdAt, form, denoted, price}
use Rattle.grammar.proofs.Forms.{prod_in, Placed, placed}
use Rattle.tables.specs.Call.{Stepped}
use Rattle.engine.specs.Cost.{CostReady}
use Rattle.engine.proofs.CostStepping.{pricing, owner_in}
use Rattle.dearest.specs.Step.{Summable, sum_of, DearestReady, DearestBecame}

module _ (rules : ℕ) (owners starts symbols costs : List ℕ) (p : ℕ) (dearest : List ℕ) (ok : DearestReady (flat rules owners starts symbols costs) p dearest) where
  abbrev g : Flat
  g = flat rules owners starts symbols costs

  priced : CostReady g p dearest
  priced = record { well = ok.begun.well; is_prod = ok.is_prod; long = ok.begun.long }

  pub step_lists : (p < length owners) × (p + 1 < length starts)
  step_lists = prod_in _ ok.begun.well p ok.is_prod

  module _ (o a e : ℕ) (h : ProdAt owners starts p o a e) where
    at_prod : Placed g p o a e
    at_prod = placed _ ok.begun.well p ok.is_prod o a e h

    pub step_sums : Summable symbols costs a e dearest
    step_sums = record { pricing = pricing _ _ _ _ _ p dearest priced o a e h; few = ok.begun.well.sizes.symbols_high; byte = ok.begun.byte; cap = ok.begun.cap }

    pub step_owner : o < length dearest
    step_owner = owner_in _ _ _ _ _ p dearest priced o a e h

    module _ (beyond : Bool) (s old : ℕ) (es : s ≡ sum_of costs dearest (form symbols a e)) (eo : old ≡ at dearest o) where
      total : s ≡ min (form_dearest add_up (at costs) (at dearest) ((denoted g).body p)) no_bound
      unfolding sum_of
      total = es ∙ rw at_prod.body

      -- the visit of an entry
      visited : (r n : ℕ) → lifted beyond old s ≡ n → (r ≡ o → ⊥) ⊎ (r ≡ o) → dearest_visit (denoted g) (price g) beyond p (at dearest) r ≡ cond (eqb r o) n (at dearest r)
      visited r n q (inl d) = rw (← h.owner, ne_eqb r o d)
      visited r n q (inr d) = rw (← h.owner, d, eq-eqb o o refl, ← eo, ← total) q

      pub step_stays : s ≤ old → Stepped (DearestBecame g beyond p dearest) dearest false dearest
      step_stays l = record {
        became = record { long = refl; entries = λ r. sym (each r) };
        told = λ t. absurd (false≢true t);
        still = λ t. refl;
      }
        where
          same : lifted beyond old s ≡ old
          same = rw (le-ltb old s l)

          each : (r : ℕ) → dearest_visit (denoted g) (price g) beyond p (at dearest) r ≡ at dearest r
          each r = elim (ℕ_discrete r o) [
            | yes d ↦ visited r old same (inr d) ∙ rw (d, eq-eqb o o refl) eo
            | no d ↦ visited r old same (inl d) ∙ rw (ne_eqb r o d)
          ]

      -- no bound is no less than the sum
      lift_least : (b : Bool) → s ≤ cond b no_bound s
      lift_least true = omega (arith, total)
      lift_least false = omega arith

      pub step_lifts : old < s → (y : ℕ) → y ≡ cond beyond no_bound s → Stepped (DearestBecame g beyond p dearest) dearest true (set dearest o y)
      step_lifts l y q = record {
        became = record { long = length-set dearest o y; entries = each };
        told = λ t z. omega (arith, lift_least beyond, q, eo, ap (λ w. at w o) z, get_or-set_same dearest o y 0 step_owner);
        still = λ t. absurd (false≢true (sym t));
      }
        where
          new : lifted beyond old s ≡ y
          new = rw (lt-ltb old s l) (sym q)

          each : (r : ℕ) → at (set dearest o y) r ≡ dearest_visit (denoted g) (price g) beyond p (at dearest) r
          each r = elim (ℕ_discrete r o) [
            | yes d ↦ ap (at (set dearest o y)) d ∙ get_or-set_same dearest o y 0 step_owner ∙ sym (visited r y new (inr d) ∙ rw (d, eq-eqb o o refl))
            | no d ↦ get_or-set_other dearest o r y 0 d ∙ sym (visited r y new (inl d) ∙ rw (ne_eqb r o d))
          ]
