-- What the fill starts from, and what it leaves: the defined table.
use Rattle.grammar.specs.Outcome.{Outcome}
use Rattle.grammar.specs.Outcome.{answers}
use mathlib.Core.List.{List}
use mathlib.Core.Path.{◌≡◌, sym, ◌∙◌, ap, subst}
use Prim.Native.Nat.{ℕ, ◌<◌, ◌^◌}
use native.Mathlib.Omega.{arith}
use lib.ListN.{length, replicate}
use Rattle.theory.specs.Dearest.{Dearest}
use Rattle.grammar.specs.Flat.{Flat, denoted, price}
use Rattle.tables.specs.Entry.{NumbersDue}
use Rattle.costs.proofs.Calling.{cost_fillable}
use Rattle.dearest.specs.Defined.{DearestFillable, DearestCleared, DearestDefined}
use Rattle.dearest.specs.Rounds.{DearestFound, Finishes}

module _ (g : Flat) (dearest : List ℕ) (ok : DearestFillable g dearest) (mid : List ℕ) (e : mid ≡ replicate (length dearest) 0) where
  pub fill_cleared : DearestCleared g mid
  fill_cleared = record { well = ok.well; byte = ok.byte; zeros = e ∙ ap (λ z. replicate z 0) ok.long }

pub fill_defined : (g : Flat) (mid to : List ℕ) → DearestFound g mid → Finishes mid to → DearestDefined g to
fill_defined g mid to f d = record { long = d.long ∙ f.long; exact = λ r lr. subst (λ z. Dearest (denoted g) (price g) r z) (sym (d.each r (omega (arith, f.long)))) (f.found r) }

-- what the public call hands on
pub fillable : (g : Flat) (ws : List ℕ) (c : Outcome (Unit {0})) → NumbersDue g (length ws) c → c ≡ answers tt → ((t : ℕ) → price g t < 2 ^ 8) → DearestFillable g ws
fillable g ws c is e byte = let f = cost_fillable g ws c is e in record { well = f.well; byte = λ t. omega (arith, byte t); long = f.long }
