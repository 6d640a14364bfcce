-- The defined table: what a fill leaves, for any earlier contents.
use Rattle.std.specs.Prelude.{List, ◌≡◌, ℕ, ◌≤◌, ◌<◌, length, replicate}
use Rattle.theory.specs.Dearest.{Dearest}
use Rattle.grammar.specs.Flat.{Flat, at, denoted, price}
use Rattle.grammar.specs.Well.{WellFormed}

-- what a fill asks: a well-formed grammar, costs that are bytes, and a table of its exact length
pub record DearestFillable (g : Flat) (dearest : List ℕ) : Type 0 where
  pub well : WellFormed g
  pub byte : (t : ℕ) → price g t ≤ 255
  pub long : length dearest ≡ g.rules

-- what its rounds start from: none known
pub record DearestCleared (g : Flat) (dearest : List ℕ) : Type 0 where
  pub well : WellFormed g
  pub byte : (t : ℕ) → price g t ≤ 255
  pub zeros : dearest ≡ replicate g.rules 0

-- each entry is its rule's greatest cost up to 65534, 65535 for costs without bound, 65536 for no sentence, 65537 for a greatest cost above 65534
pub record DearestDefined (g : Flat) (dearest : List ℕ) : Type 0 where
  pub long : length dearest ≡ g.rules
  pub exact : (r : ℕ) → r < g.rules → Dearest (denoted g) (price g) r (at dearest r)
