-- One production's step of the dearest costs on lent numbers.
use Rattle.std.specs.Prelude.{Bool, List, ◌≡◌, ℕ, ◌≤◌, ◌<◌, min, length}
use Rattle.theory.specs.DearestVisits.{no_bound, add_up, sym_dearest, form_dearest, dearest_visit}
use Rattle.theory.specs.Grammar.{Form}
use Rattle.grammar.specs.Flat.{Flat, at, symbol, denoted, price}
use Rattle.engine.specs.Cost.{Pricing}
use Rattle.dearest.specs.Rounds.{DearestBegun}

-- what symbol s adds to a sum
unfoldable pub part_of : (costs dearest : List ℕ) → ℕ → ℕ
part_of costs dearest s = sym_dearest (at costs) (at dearest) (symbol s)

-- what it takes to add up the symbols from a up to e
pub record Summable (symbols costs : List ℕ) (a e : ℕ) (dearest : List ℕ) : Type 0 where
  pub pricing : Pricing symbols costs a e dearest
  pub few : length symbols ≤ 16384
  pub byte : (t : ℕ) → at costs t ≤ 255
  pub cap : (r : ℕ) → at dearest r ≤ no_bound

-- the sum of a form, at most no bound
unfoldable pub sum_of : (costs dearest : List ℕ) → Form → ℕ
sum_of costs dearest α = min (form_dearest add_up (at costs) (at dearest) α) no_bound

-- what a step asks: what a round asks, and one of the grammar's productions
pub record DearestReady (g : Flat) (p : ℕ) (dearest : List ℕ) : Type 0 where
  pub begun : DearestBegun g dearest
  pub is_prod : p < length g.owners

-- the owner's entry becomes the sum where that exceeds it, or no bound beyond R rounds
pub record DearestBecame (g : Flat) (beyond : Bool) (p : ℕ) (ws to : List ℕ) : Type 0 where
  pub long : length to ≡ length ws
  pub entries : (r : ℕ) → at to r ≡ dearest_visit (denoted g) (price g) beyond p (at ws) r
