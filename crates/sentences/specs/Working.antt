-- The working tables of a call, with the first choices that lengths and sentences follow.
use Rattle.std.specs.Prelude.{List, ◌≡◌, ℕ, ◌<◌, length, replicate}
use Rattle.grammar.specs.Flat.{Flat}
use Rattle.grammar.specs.Well.{WellFormed}
use Rattle.engine.specs.Cost.{costs_of}
use Rattle.costs.specs.Defined.{CostDefined}
use Rattle.sentences.specs.Choosing.{FirstChoices}
use Rattle.sentences.specs.Measuring.{LengthsDefined}

-- what filling them asks: a well-formed grammar, tables of their exact lengths, no first choice yet
pub record Workable (g : Flat) (cost choice lengths : List ℕ) : Type 0 where
  pub well : WellFormed g
  pub cost_long : length cost ≡ g.rules
  pub none : choice ≡ replicate 512 4096
  pub lengths_long : length lengths ≡ g.rules

-- they hold their final values
pub record Worked (g : Flat) (cost choice lengths : List ℕ) : Type 0 where
  pub prices : CostDefined g cost
  pub picks : FirstChoices g cost choice
  pub counts : LengthsDefined g (costs_of cost) lengths

-- what an answer asks: a well-formed grammar, its working tables, one of its rules
pub record Finished (g : Flat) (r : ℕ) (cost choice lengths : List ℕ) : Type 0 where
  pub well : WellFormed g
  pub worked : Worked g cost choice lengths
  pub is_rule : r < g.rules
