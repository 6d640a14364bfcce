-- Turning the places of a production.
use Rattle.std.specs.Prelude.{Option, None, Some, List, ◌≡◌, ℕ, ◌+◌, ◌≤◌, ◌<◌, length, take, drop, get_or}
use Rattle.theory.specs.Odometer.{product, Fits, zeros, turns}

-- what turning asks: at most 16 places, each with 1 to 65535 choices, all at 0
pub record Turnable (bases : List ℕ) (m : ℕ) (todo : List ℕ) : Type 0 where
  pub few : m ≤ 16
  pub bases_long : length bases ≡ 16
  pub todo_long : length todo ≡ 16
  pub low : (j : ℕ) → j < m → get_or bases j 0 ≤ 65535
  pub some : Fits (take m bases) (zeros (take m bases))
  pub begun : take m todo ≡ zeros (take m bases)

-- the places show choice k; or there are fewer, and so many are left over
abbrev pub Shows : (bs : List ℕ) (k : ℕ) (ds : List ℕ) → Option ℕ → Type 0
Shows bs k ds None = Fits bs ds × (turns bs ds ≡ k)
Shows bs k ds (Some left) = (k ≡ product bs + left) × (ds ≡ zeros bs)

-- what turning leaves: the first m places show it, and the others are as they were
pub record Turns (bases : List ℕ) (m k : ℕ) (todo : List ℕ) (said : Option ℕ) (to : List ℕ) : Type 0 where
  pub room : length to ≡ 16
  pub shows : Shows (take m bases) k (take m to) said
  pub rest : drop m to ≡ drop m todo
