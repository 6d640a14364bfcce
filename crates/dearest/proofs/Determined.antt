-- The call's promise determines its answer and every lent number: any two results that it allows are equal. What the source gives, where it can be compared.
use Rattle.grammar.proofs.Determined.{outcome_one}
use Rattle.grammar.specs.declared.refusal.Refusal.{Refusal}
use Rattle.std.specs.Prelude.{Result}
use mathlib.Core.List.{List}
use mathlib.Core.Path.{◌≡◌, sym, ◌∙◌}
use Prim.Native.Nat.{ℕ, ◌<◌}
use native.Mathlib.Omega.{arith}
use lib.Seq.{ext_get_or}
use Rattle.theory.specs.Visits.{Costs, Row}
use Rattle.theory.proofs.Dearest.{dearest_one}
use Rattle.source.specs.MaxCosts.{start, Loops, Returns, Comparable}
use Rattle.source.proofs.MaxCosts.{max_costs_exact}
use Rattle.grammar.specs.Flat.{Flat, at, denoted, price}
use Rattle.grammar.specs.Outcome.{answers}
use Rattle.grammar.specs.Well.{Built}
use Rattle.grammar.proofs.Denoted.{proper}
use Rattle.tables.specs.Sizes.{numbers_wrong}
use Rattle.tables.proofs.Calls.{Alike, call_one, leaves_one}
use Rattle.costs.specs.Calls.{fill_due}
use Rattle.dearest.specs.Calls.{Fill}
use Rattle.dearest.specs.Defined.{DearestDefined}

-- the defined table is one
pub dearest_defined_one : (g : Flat) (a b : List ℕ) → DearestDefined g a → DearestDefined g b → a ≡ b
dearest_defined_one g a b x y = ext_get_or 0 a b (x.long ∙ sym y.long) (λ r lr. let l : r < g.rules = omega (arith, x.long) in dearest_one (x.exact r l) (y.exact r l))

pub fill_one : (g : Flat) (ws : List ℕ) {a b : List ℕ} {r s : Result (Unit {0}) Refusal} → Fill g ws r a → Fill g ws s b → Alike r s a b
fill_one g ws {r = r} {s = s} x y = let o = call_one (leaves_one (dearest_defined_one g)) (fill_due g (numbers_wrong g.rules ws)) x y in record { answer = outcome_one o.said; left = o.left }

-- demand 2, on every grammar that the crate can build: wherever the source's `rule_max_costs` returns, its costs are those that fill leaves, for every rule of which none of the three differences speaks
pub source_equal : (g : Flat) → Built g → (l : List ℕ) → DearestDefined g l → {v : Costs} (loops : Row) → Loops (denoted g) loops → Returns (denoted g) (price g) (start loops) v
    → (Q : ℕ → Type 0) → Comparable (denoted g) (price g) v Q → (r : ℕ) → Q r → at l r ≡ v r
source_equal g b l d {v} loops lp e Q c r q = dearest_one (d.exact r (c.inside r q)) (max_costs_exact (denoted g) (price g) v Q c (proper g b.well) loops lp e r q)

-- the same of a call of fill, whatever was lent to it
pub fill_source : (g : Flat) → Built g → (ws to : List ℕ) (q : Result (Unit {0}) Refusal) → fill_due g (numbers_wrong g.rules ws) ≡ answers tt → Fill g ws q to → {v : Costs} (loops : Row) → Loops (denoted g) loops → Returns (denoted g) (price g) (start loops) v
    → (Q : ℕ → Type 0) → Comparable (denoted g) (price g) v Q → (r : ℕ) → Q r → at to r ≡ v r
fill_source g b ws to q due x loops lp e Q c r z = source_equal g b to (x.does due).left loops lp e Q c r z
