-- A step of COST that marks what it reads: what it leaves is calm, unless it is late.
use mathlib.Core.Bool.{Bool, true, false, not, true≢false, false≢true}
use mathlib.Core.List.{List}
use mathlib.Core.Path.{◌≡◌, refl, sym, ◌∙◌, ap, fun_ext}
use Prim.Native.Nat.{ℕ, ◌≤◌, ◌<◌, min}
use native.Mathlib.Decide.{ℕ_discrete}
use native.Mathlib.Omega.{arith}
use lib.ListN.{length, get_or, set}
use lib.Seq.{get_or-set_same, get_or-set_other}
use borrow.Author.Tests.{eq-eqb, ne_eqb}
use Rattle.theory.specs.Grammar.{Grammar}
use Rattle.theory.specs.Visits.{Costs, sum_cost, cost_visit}
use Rattle.grammar.specs.Flat.{Flat, flat, at, ProdAt, form, denoted, price}
use Rattle.grammar.proofs.Forms.{placed}
use Rattle.engine.specs.Cost.{costs_of, Agrees, Summable, ReadsSum, Lowerable, Lowers}
use Rattle.engine.proofs.Reading.{adds_none}
use Rattle.engine.proofs.CostStepping.{cut_stays, pricing, owner_in, cost_least, cost_stays, cost_lowers}
use Rattle.engine.proofs.Summing.{entry}

twice : (b : Bool) → not (not b) ≡ b
twice true = refl
twice false = refl

-- a visit leaves a table whose entry the sum does not come below
still : (g : Grammar) (k : ℕ → ℕ) (p : ℕ) (d : Costs) → min (d (g.owner p)) 65537 ≤ sum_cost k d (g.body p) → cost_visit g k p d ≡ d
still g k p d le = fun_ext (λ r. elim (ℕ_discrete r (g.owner p)) [
  | yes e ↦ rw (e, eq-eqb (g.owner p) (g.owner p) refl) (cut_stays (d (g.owner p)) (sum_cost k d (g.body p)) (min (d (g.owner p)) 65537) refl le)
  | no n ↦ rw (ne_eqb r (g.owner p) n)
])

module _ (rules : ℕ) (owners starts symbols costs : List ℕ) (p : ℕ) (cost : List ℕ) (read : List Bool) (ok : Lowerable (flat rules owners starts symbols costs) p cost read) (o a e : ℕ) (h : ProdAt owners starts p o a e) where
  abbrev g : Flat
  g = flat rules owners starts symbols costs

  pub lower_sums : (old top : ℕ) → top ≡ min old 65537 → Summable symbols costs a e cost top read
  lower_sums old top et = record {
    upto = omega arith;
    pricing = pricing rules owners starts symbols costs p cost ok.ready o a e h;
    few = omega (arith, ok.ready.long, ok.ready.well.sizes.rules_high);
    long = ok.long;
  }

  pub lower_owner : o < length cost
  lower_owner = owner_in rules owners starts symbols costs p cost ok.ready o a e h

  pub lower_few : o < 512
  lower_few = omega (arith, lower_owner, ok.ready.long, ok.ready.well.sizes.rules_high)

  -- production p is calm where the sum by d does not come below its owner's entry
  quiet : (c d : Costs) (top : ℕ) → d o ≤ c o → min (c o) 65537 ≤ top → top ≤ sum_cost (at costs) d (form symbols a e) → cost_visit (denoted g) (price g) p d ≡ d
  quiet c d top le lt k =
      let q = placed _ ok.ready.well p ok.ready.is_prod o a e h in
      still (denoted g) (price g) p d (rw (← h.owner, q.body) (omega arith))

  module _ (old top : ℕ) (eo : old ≡ at cost o) (et : top ≡ min old 65537) where
    held : costs_of cost o ≡ old
    held = entry cost o lower_owner ∙ sym eo

    -- the owner's entry is 0
    pub lowers_least : top ≡ 0 → Lowers g p cost read false false cost read
    lowers_least z = record {
      steps = cost_least rules owners starts symbols costs p cost ok.ready o a e h old top eo et z;
      adds = adds_none read;
      told = λ t. absurd (false≢true t);
      kept = λ t r k. refl;
      calm = λ t d le ag. quiet (costs_of cost) d 0 (le o) (omega (arith, held)) (omega arith);
    }

    module _ (s : ℕ) (read' : List Bool) (sums : ReadsSum top costs cost (form symbols a e) read s read') where
      told : s ≡ min (sum_cost (at costs) (costs_of cost) (form symbols a e)) top
      told = sym (sums.same (costs_of cost) (λ r k. refl))

      -- the sum comes to it
      pub lowers_none : top ≤ s → Lowers g p cost read false false cost read'
      lowers_none k = record {
        steps = cost_stays rules owners starts symbols costs p cost ok.ready o a e h old top eo et s told k;
        adds = sums.adds;
        told = λ t. absurd (false≢true t);
        kept = λ t r k. refl;
        calm = λ t d le ag. quiet (costs_of cost) d top (le o) (omega (arith, held)) (omega (arith, sums.same d ag));
      }

      -- it becomes the sum; late if it was read before
      module _ (k : s < top) (early : Bool) (ee : early ≡ not (get_or read' o false)) where
        abbrev late : Bool
        late = not early

        el : late ≡ get_or read' o false
        el = ap not ee ∙ twice (get_or read' o false)

        now : costs_of (set cost o s) o ≡ s
        unfolding costs_of
        now = get_or-set_same cost o s 65537 lower_owner

        others : late ≡ false → Agrees read' (costs_of (set cost o s)) (costs_of cost)
        unfolding costs_of
        others t r b = get_or-set_other cost o r s 65537 (λ z. true≢false (sym b ∙ ap (λ z. get_or read' z false) z ∙ sym el ∙ t))

        pub lowers_new : Lowers g p cost read true late (set cost o s) read'
        lowers_new = record {
          steps = cost_lowers rules owners starts symbols costs p cost ok.ready o a e h old top eo et s told k;
          adds = sums.adds;
          told = λ t. refl;
          kept = others;
          calm = λ t d le ag. quiet (costs_of (set cost o s)) d s (le o) (omega (arith, now)) (omega (arith, sums.same d (λ r b. ag r b ∙ others t r b)));
        }
