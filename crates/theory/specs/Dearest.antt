-- The dearest sentences: what a rule's entry is, by derivation.
use Rattle.std.specs.Prelude.{List, ◌≡◌, ℕ, ◌≤◌, ◌<◌}
use Rattle.theory.specs.Definitions.{Sentence, Productive, cost_of, Costing}
use Rattle.theory.specs.Entries.{dearest_max, dearest_unbounded, dearest_none, dearest_above}
use Rattle.theory.specs.Grammar.{Grammar}

-- n is the greatest cost of a sentence of r
pub record Greatest (g : Grammar) (k : ℕ → ℕ) (r n : ℕ) : Type 0 where
  pub met : Costing g k r n
  pub most : (w : List ℕ) → Sentence g r w → cost_of k w ≤ n

-- the costs of r's sentences are without bound: whatever the number, some sentence costs as much
abbrev pub Unbounded : Grammar → (ℕ → ℕ) → ℕ → Type 0
Unbounded g k r = (m : ℕ) → (w : List ℕ) × Sentence g r w × (m ≤ cost_of k w)

-- r's entry: its greatest cost up to 65534, 65535 for costs without bound, 65536 for no sentence, 65537 for a greatest cost above 65534
pub data Dearest (g : Grammar) (k : ℕ → ℕ) (r n : ℕ) : Type 0 where
  is : n ≤ dearest_max → Greatest g k r n → Dearest g k r n
  unbounded : Unbounded g k r → n ≡ dearest_unbounded → Dearest g k r n
  none : (Productive g r → ⊥) → n ≡ dearest_none → Dearest g k r n
  above : (m : ℕ) → dearest_max < m → Greatest g k r m → n ≡ dearest_above → Dearest g k r n
