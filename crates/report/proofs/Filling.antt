-- The fills on a well-formed grammar and tables of their exact lengths: none is refused, so each leaves the defined tables.
use Rattle.grammar.specs.declared.refusal.Refusal.{Refusal}
use Rattle.std.specs.Prelude.{Result, Ok, Err, IsOk}
use mathlib.Core.List.{List}
use mathlib.Core.Path.{◌≡◌, refl, sym, ap, ◌∙◌}
use Prim.Native.Nat.{ℕ, ◌*◌, ◌≤◌}
use native.Mathlib.Omega.{arith}
use lib.ListN.{length, take, replicate, length-replicate}
use lib.Seq.{length-take-le}
use Rattle.grammar.specs.Flat.{Flat}
use Rattle.grammar.specs.Outcome.{Outcome, answers}
use Rattle.grammar.specs.Lent.{outcome_of}
use Rattle.grammar.specs.Well.{WellFormed}
use Rattle.grammar.proofs.Outcomes.{not_both}
use Rattle.tables.specs.Call.{Call, Leaves}
use Rattle.tables.specs.Sizes.{words, numbers_wrong}
use Rattle.tables.proofs.AnyOrder.{goes}
use Rattle.tables.proofs.Asking.{table_right, row_right, numbers_right, words_most}
use Rattle.engine.specs.First.{lent as firsts}
use Rattle.engine.specs.Follow.{Lent, reads, lent}
use Rattle.follows.specs.Calls.{Tables as FollowTables, fill_due}
use Rattle.costs.specs.Calls.{Fill as FillCost, fill_due as cost_fill_due}
use Rattle.costs.specs.Defined.{CostFillable, CostDefined}
use Rattle.lines.specs.Lent.{tables}
use Rattle.lines.proofs.Saying.{fills_define}
use Rattle.report.specs.Steps.{SetsFillable, SetsFull, Fillable, Ready}

-- the tables of a grammar are the fronts of lists with room for the largest
pub zeros : (n : ℕ) → n ≤ length {A = ℕ} (replicate n 0)
zeros n = omega (arith, length-replicate {0} {A = ℕ} n 0)

front_long : (n k : ℕ) (list : List ℕ) → n ≡ k → k ≤ length list → length (take n list) ≡ k
front_long n k list e l = length-take-le n list (omega (arith, e)) ∙ e

pub fronts_fillable : (g : Flat) → WellFormed g → (n w k : ℕ) → n ≡ g.rules → w ≡ words n → k ≡ n * words (length g.costs)
    → Fillable g (tables (take w (replicate 16 0)) (take k (replicate 8192 0)) (take k (replicate 8192 0)) (take n (replicate 512 0)))
fronts_fillable g x n w k en ew ek =
    let few = x.sizes.rules_high in
    let row : words g.rules ≤ 16 = omega (arith, few) in
    let table : g.rules * words (length g.costs) ≤ 8192 = words_most g.rules (length g.costs) _ few x.sizes.tokens_high refl in
    let wide : w ≡ words g.rules = ew ∙ ap words en in
    let all : k ≡ g.rules * words (length g.costs) = ek ∙ ap (λ r. r * words (length g.costs)) en in
    record {
      well = x;
      empty_long = front_long w _ (replicate 16 0) wide (omega (arith, row, zeros 16));
      first_long = front_long k _ (replicate 8192 0) all (omega (arith, table, zeros 8192));
      follow_long = front_long k _ (replicate 8192 0) all (omega (arith, table, zeros 8192));
      cost_long = front_long n _ (replicate 512 0) en (omega (arith, few, zeros 512));
    }

-- all of them filled
pub filled_ready : (g : Flat) → WellFormed g → (empty first follow cost : List ℕ) → SetsFull g follow first empty → CostDefined g cost → Ready g (tables empty first follow cost)
filled_ready g x empty first follow cost f c = record { well = x; defined = fills_define g empty first follow f.reached cost f.full c }

-- what answers is no error
done_ok : (r : Result (Unit {0}) Refusal) → outcome_of r ≡ answers tt → IsOk r
done_ok (Ok x) e = refl
done_ok (Err why) e = absurd (not_both (sym e))

-- each fill is done and leaves its tables: no refusal is due
module _ (g : Flat) where
  sets_due : (follow first empty reached : List ℕ) → SetsFillable g follow first empty → length reached ≡ words g.rules → fill_due g 2 (lent follow (reads (firsts first empty) reached)) ≡ answers tt
  sets_due follow first empty reached f l =
      goes g f.well _
      ∙ rw (
        table_right g.rules (length g.costs) follow f.follow_long,
        table_right g.rules (length g.costs) first f.first_long,
        row_right g.rules empty f.empty_long,
        row_right g.rules reached l,
      )

  -- the reached row is the front of a list with room for the largest
  pub reached_long : WellFormed g → (n w : ℕ) → n ≡ g.rules → w ≡ words n → length {A = ℕ} (take w (replicate 16 0)) ≡ words g.rules
  reached_long x n w en ew = front_long w _ (replicate 16 0) (ew ∙ ap words en) (omega (arith, x.sizes.rules_high, zeros 16))

  pub sets_done : (follow first empty reached : List ℕ) → SetsFillable g follow first empty → length reached ≡ words g.rules → (r : Result (Unit {0}) Refusal) {l : Lent} → Call (fill_due g 2 (lent follow (reads (firsts first empty) reached))) (Leaves (FollowTables g)) (lent follow (reads (firsts first empty) reached)) (outcome_of r) l → IsOk r
  sets_done follow first empty reached f long r x = done_ok r (x.does (sets_due follow first empty reached f long)).done

  pub sets_full : (follow first empty reached : List ℕ) → SetsFillable g follow first empty → length reached ≡ words g.rules → {s : Outcome (Unit {0})} {l : Lent} → Call (fill_due g 2 (lent follow (reads (firsts first empty) reached))) (Leaves (FollowTables g)) (lent follow (reads (firsts first empty) reached)) s l
      → SetsFull g l.follow l.read.firsts.first l.read.firsts.empty
  sets_full follow first empty reached f long {l = l} x = record { reached = l.read.reached; full = (x.does (sets_due follow first empty reached f long)).left }

  cost_due : (cost : List ℕ) → CostFillable g cost → cost_fill_due g (numbers_wrong g.rules cost) ≡ answers tt
  cost_due cost f = goes g f.well _ ∙ rw (numbers_right g.rules cost f.long)

  pub cost_done : (cost : List ℕ) → CostFillable g cost → (r : Result (Unit {0}) Refusal) (cost' : List ℕ) → FillCost g cost r cost' → IsOk r
  cost_done cost f r cost' x = done_ok r (x.does (cost_due cost f)).done

  pub cost_full : (cost : List ℕ) → CostFillable g cost → (r : Result (Unit {0}) Refusal) (cost' : List ℕ) → FillCost g cost r cost' → CostDefined g cost'
  cost_full cost f r cost' x = (x.does (cost_due cost f)).left
