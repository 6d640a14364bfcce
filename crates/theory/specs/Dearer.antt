-- What a dearer token does: one token's cost goes up, and a rule's cost with it.
use Rattle.std.specs.Prelude.{cond, List, [], ◌∷◌, ◌≡◌, ℕ, ◌+◌, ◌*◌, ◌≤◌, eqb}
use Rattle.theory.specs.Definitions.{Sentence, cost_of}
use Rattle.theory.specs.Entries.{cost_max, cost_unknown}
use Rattle.theory.specs.Grammar.{Grammar}

-- one token's cost goes up by d, the others stay
pub record GoesUp (k : ℕ → ℕ) (t d : ℕ) (k' : ℕ → ℕ) : Type 0 where
  pub up : k' t ≡ k t + d
  pub same : (s : ℕ) → (s ≡ t → ⊥) → k' s ≡ k s

-- that token's occurrences in a sentence
abbrev pub occurs : ℕ → List ℕ → ℕ
occurs t [] = 0
occurs t (s ∷ w) = cond (eqb s t) 1 0 + occurs t w

-- a rule's entry, m before and n after: it does not fall; where m plus d times the occurrences in any one old cheapest sentence is at most 65535, n is at most that; a rule with no sentence stays so, and no other becomes so
pub record Dearer (g : Grammar) (k : ℕ → ℕ) (t d r m n : ℕ) : Type 0 where
  pub rises : m ≤ n
  pub upto : (w : List ℕ) → Sentence g r w → cost_of k w ≡ m → m + d * occurs t w ≤ cost_max → n ≤ m + d * occurs t w
  pub none : m ≡ cost_unknown → n ≡ cost_unknown
  pub only : n ≡ cost_unknown → m ≡ cost_unknown
