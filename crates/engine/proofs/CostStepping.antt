-- One production's step of PRODUCTIVE and of COST: what it asks of what it calls, and what it leaves.
use mathlib.Core.Bool.{Bool, true, false, not, cond, and-true, and-false, or-false, false≢true}
use mathlib.Core.List.{List}
use mathlib.Core.Logic.{◌⊎◌, inl, inr}
use mathlib.Core.Path.{◌≡◌, refl, sym, ap, ◌∙◌}
use Prim.Native.Nat.{ℕ, ◌+◌, ◌*◌, ◌≤◌, ◌<◌, min}
use native.Mathlib.Decide.{ℕ_discrete}
use native.Mathlib.Omega.{arith}
use lib.Dec.{eqb, leb}
use lib.ListN.{length, get_or, set, length-set}
use lib.Seq.{get_or-set_same, get_or-set_other}
use borrow.Author.Tests.{leb-true, le-leb, eq-eqb, ne_eqb, not-true, not-false}
use Rattle.theory.specs.Visits.{all_marked, sum_cost, lower, cost_visit}
use Rattle.grammar.specs.Flat.{Flat, flat, at, ProdAt, form, denoted, price}
use Rattle.grammar.proofs.Forms.{prod_in, Placed, placed}
use Rattle.rows.specs.Marks.{place, mark, marked, Raised}
use Rattle.rows.proofs.Marks.{row_in}
use Rattle.rows.proofs.Raise.{fresh_not, raised_mark}
use Rattle.rows.proofs.Row.{row_as, row_self, row_raised}
use Rattle.tables.specs.Call.{Stepped}
use Rattle.tables.specs.Sizes.{words}
use Rattle.engine.specs.Productive.{row_of, Marking, RowReady, ProductiveBecame}
use Rattle.engine.specs.Cost.{costs_of, SymbolPriced, Pricing, CostReady, CostBecame}
use Rattle.engine.proofs.Summing.{entry}

-- PRODUCTIVE
module _ (rules : ℕ) (owners starts symbols costs : List ℕ) (p : ℕ) (row : List ℕ) (ok : RowReady (flat rules owners starts symbols costs) p row) where
  abbrev g : Flat
  g = flat rules owners starts symbols costs

  pub row_lists : (p < length owners) × (p + 1 < length starts)
  row_lists = prod_in _ ok.well p ok.is_prod

  module _ (n o a e : ℕ) (en : n ≡ rules) (h : ProdAt owners starts p o a e) where
    at_place : Placed g p o a e
    at_place = placed _ ok.well p ok.is_prod o a e h

    pub marking : Marking n (length costs) symbols a e row
    marking = record {
      few_rules = omega (arith, en, ok.well.sizes.rules_high);
      rise = at_place.rise;
      fits = at_place.fits;
      symbol = rw en ok.well.symbols;
      long = rw en (ok.held.len ∙ (let z : 1 * words rules ≡ words rules = omega arith in z));
    }

    pub few : n ≤ 512
    few = marking.few_rules

    in_row : place (words rules) 0 o < length row
    in_row = row_in 1 rules (words rules) row 0 o (omega arith) ok.held.len (omega arith) at_place.owner

    pub owner_place : (rd : ℕ) → rd ≡ words n → place rd 0 o < length row
    owner_place rd er = rw (er, en) in_row

    module _ (b : Bool) (eb : b ≡ all_marked (row_of n row) (form symbols a e)) where
      all : all_marked (row_of rules row) ((denoted g).body p) ≡ b
      all = rw at_place.body (sym (eb ∙ ap (λ z. all_marked (row_of z row) (form symbols a e)) en))

      pub row_stays : not b ≡ true → Stepped (ProductiveBecame g p row) row false row
      row_stays k = record {
        became = row_as rules (words rules) row row _ _ (λ r lr. sym (rw (all ∙ not-true b k, and-false (eqb r (at owners p))) (or-false (row_of rules row r)))) (row_self rules (words rules) row ok.held);
        told = λ t. absurd (false≢true t);
        still = λ t. refl;
      }

      module _ (k : not b ≡ false) (rd : ℕ) (got : Bool) (to : List ℕ) (er : rd ≡ words n) (eg : got ≡ not (mark rd row 0 o)) (et : to ≡ marked rd row 0 o) where
        raised : Raised rules (words rules) row to 0 (λ r. eqb r o) got
        raised = rw (eg, et, er, en) (raised_mark rules (words rules) row 0 o (omega arith) ok.held.small in_row at_place.owner)

        pub row_marks : Stepped (ProductiveBecame g p row) row got to
        row_marks = record {
          became = row_as rules (words rules) row to _ _ (λ r lr. sym (rw (all ∙ not-false b k, and-true (eqb r (at owners p)), ← h.owner))) (row_raised rules (words rules) row to (λ r. eqb r o) got (omega arith) raised ok.held);
          told = λ t q. fresh_not (raised.told t) q;
          still = raised.still;
        }

-- what a sum f makes of an entry n, where s is the sum cut at n and at 65537
cut_lowers : (n f s top : ℕ) → top ≡ min n 65537 → s ≡ min f top → s < top → (lower n f ≡ s) × (s < n)
cut_lowers n f s top t e k = (rw (le-leb f 65536 (omega arith)) (omega arith), omega arith)

pub cut_stays : (n f top : ℕ) → top ≡ min n 65537 → top ≤ f → lower n f ≡ n
cut_stays n f top t k = go (leb f 65536) refl
  where
    go : (b : Bool) → leb f 65536 ≡ b → cond b (min n f) n ≡ n
    go true q = omega (arith, leb-true f 65536 q)
    go false q = refl

-- COST
module _ (rules : ℕ) (owners starts symbols costs : List ℕ) (p : ℕ) (cost : List ℕ) (ok : CostReady (flat rules owners starts symbols costs) p cost) where
  pub cost_lists : (p < length owners) × (p + 1 < length starts)
  cost_lists = prod_in _ ok.well p ok.is_prod

  priced : (k : ℕ) → k < length symbols → SymbolPriced costs cost (at symbols k)
  priced k l = let s = ok.well.symbols k l in record { token = λ lo. omega (arith, s.token lo); rule = λ hi. omega (arith, s.rule hi, ok.long) }

  module _ (o a e : ℕ) (h : ProdAt owners starts p o a e) where
    at_prod : Placed (flat rules owners starts symbols costs) p o a e
    at_prod = placed _ ok.well p ok.is_prod o a e h

    pub pricing : Pricing symbols costs a e cost
    pricing = record { rise = at_prod.rise; fits = at_prod.fits; symbol = priced }

    pub owner_in : o < length cost
    owner_in = omega (arith, at_prod.owner, ok.long)

    module _ (old top : ℕ) (eo : old ≡ at cost o) (et : top ≡ min old 65537) where
      abbrev f : ℕ
      f = sum_cost (at costs) (costs_of cost) ((denoted (flat rules owners starts symbols costs)).body p)

      held : costs_of cost o ≡ old
      held = entry cost o owner_in ∙ sym eo

      -- the visit of an entry
      visited : (r n : ℕ) → lower old f ≡ n → (r ≡ o → ⊥) ⊎ (r ≡ o) → cost_visit (denoted (flat rules owners starts symbols costs)) (price (flat rules owners starts symbols costs)) p (costs_of cost) r ≡ cond (eqb r o) n (costs_of cost r)
      visited r n q (inl d) = rw (← h.owner, ne_eqb r o d)
      visited r n q (inr d) = rw (← h.owner, d, eq-eqb o o refl, held) q

      stays : top ≤ f → Stepped (CostBecame (flat rules owners starts symbols costs) p cost) cost false cost
      stays k = record {
        became = record { long = refl; entries = λ r. sym (each r) };
        told = λ t. absurd (false≢true t);
        still = λ t. refl;
      }
        where
          each : (r : ℕ) → cost_visit (denoted (flat rules owners starts symbols costs)) (price (flat rules owners starts symbols costs)) p (costs_of cost) r ≡ costs_of cost r
          each r = elim (ℕ_discrete r o) [
            | yes d ↦ visited r old (cut_stays old f top et k) (inr d) ∙ rw (d, eq-eqb o o refl) (sym held)
            | no d ↦ visited r old (cut_stays old f top et k) (inl d) ∙ rw (ne_eqb r o d)
          ]

      -- an entry of 0 stays, and so does one that the sum comes to
      pub cost_least : top ≡ 0 → Stepped (CostBecame (flat rules owners starts symbols costs) p cost) cost false cost
      cost_least z = stays (omega arith)

      module _ (s : ℕ) (es : s ≡ min (sum_cost (at costs) (costs_of cost) (form symbols a e)) top) where
        cut : s ≡ min f top
        cut = es ∙ rw at_prod.body

        pub cost_stays : top ≤ s → Stepped (CostBecame (flat rules owners starts symbols costs) p cost) cost false cost
        cost_stays k = stays (omega (arith, cut))

        pub cost_lowers : s < top → Stepped (CostBecame (flat rules owners starts symbols costs) p cost) cost true (set cost o s)
        unfolding costs_of
        cost_lowers k = record {
          became = record { long = length-set cost o s; entries = each };
          told = λ t q. differs (ap (λ z. at z o) q);
          still = λ t. absurd (false≢true (sym t));
        }
          where
            each : (r : ℕ) → costs_of (set cost o s) r ≡ cost_visit (denoted (flat rules owners starts symbols costs)) (price (flat rules owners starts symbols costs)) p (costs_of cost) r
            each r = elim (ℕ_discrete r o) [
              | yes d ↦ ap (λ z. get_or (set cost o s) z 65537) d ∙ get_or-set_same cost o s 65537 owner_in ∙ sym (visited r s (cut_lowers old f s top et cut k).0 (inr d) ∙ rw (d, eq-eqb o o refl))
              | no d ↦ get_or-set_other cost o r s 65537 d ∙ sym (visited r s (cut_lowers old f s top et cut k).0 (inl d) ∙ rw (ne_eqb r o d))
            ]

            differs : at (set cost o s) o ≡ at cost o → ⊥
            differs q = omega (arith, (cut_lowers old f s top et cut k).1, get_or-set_same cost o s 0 owner_in, eo)
