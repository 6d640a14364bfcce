-- Rounds of the dearest costs on lent numbers, and what they become at the end.
use Rattle.std.specs.Prelude.{Bool, List, ◌≡◌, ℕ, ◌≤◌, ◌<◌, length}
use Rattle.theory.specs.Dearest.{Dearest}
use Rattle.theory.specs.DearestVisits.{no_bound, dearest_visit, ends_as}
use Rattle.theory.specs.Fills.{turns, Moves}
use Rattle.grammar.specs.Flat.{Flat, at, denoted, price}
use Rattle.grammar.specs.Well.{WellFormed}
use Rattle.engine.specs.Cost.{Long}

-- what a round asks: a well-formed grammar, costs that are bytes, and a number of at most no bound for each rule
pub record DearestBegun (g : Flat) (dearest : List ℕ) : Type 0 where
  pub well : WellFormed g
  pub byte : (t : ℕ) → price g t ≤ 255
  pub long : length dearest ≡ g.rules
  pub cap : (r : ℕ) → at dearest r ≤ no_bound

-- a round up or down was made, among the first R or beyond
abbrev pub DearestRounds : Flat → (beyond down : Bool) → List ℕ → Bool → List ℕ → Type 0
DearestRounds g beyond down = Moves (dearest_visit (denoted g) (price g) beyond) at Long (turns down (length g.owners) (length g.owners))

-- rounds were made until none would change anything: what each entry ends as is its rule's
pub record DearestFound (g : Flat) (dearest : List ℕ) : Type 0 where
  pub long : length dearest ≡ g.rules
  pub found : (r : ℕ) → Dearest (denoted g) (price g) r (ends_as (at dearest r))

-- each entry became what it is at the end
pub record Finishes (before after : List ℕ) : Type 0 where
  pub long : length after ≡ length before
  pub each : (r : ℕ) → r < length before → at after r ≡ ends_as (at before r)
