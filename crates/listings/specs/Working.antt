-- The working tables of both calls, with the links and the first choices that counting and writing go by.
use Rattle.std.specs.Prelude.{List, ◌≡◌, ℕ, ◌<◌, length, replicate}
use Rattle.grammar.specs.Flat.{Flat}
use Rattle.grammar.specs.Well.{WellFormed}
use Rattle.engine.specs.Cost.{costs_of}
use Rattle.costs.specs.Defined.{CostDefined}
use Rattle.sentences.specs.Choosing.{FirstChoices}
use Rattle.listings.specs.Calls.{CountsDefined, work, Final}
use Rattle.listings.specs.Counting.{Nexts}

-- what filling them asks: a well-formed grammar, tables of their exact lengths, no link and no first choice yet
pub record Workable (g : Flat) (cost next choice lengths counts : List ℕ) : Type 0 where
  pub well : WellFormed g
  pub cost_long : length cost ≡ g.rules
  pub next_none : next ≡ replicate 4096 4096
  pub choice_none : choice ≡ replicate 512 4096
  pub lengths_long : length lengths ≡ g.rules
  pub counts_long : length counts ≡ g.rules

-- they hold their final values
pub record Worked (g : Flat) (cost next choice lengths counts : List ℕ) : Type 0 where
  pub final : Final g (work cost lengths counts)
  pub links : Nexts g next
  pub picks : FirstChoices g cost choice

-- what the count asks: a well-formed grammar, the final tables that it reads, one of its rules
pub record CountReady (g : Flat) (r : ℕ) (cost counts : List ℕ) : Type 0 where
  pub well : WellFormed g
  pub cost_defined : CostDefined g cost
  pub counts_defined : CountsDefined g (costs_of cost) counts
  pub is_rule : r < g.rules

-- what number k asks: all of them
pub record NumberReady (g : Flat) (r : ℕ) (cost next choice lengths counts : List ℕ) : Type 0 where
  pub well : WellFormed g
  pub worked : Worked g cost next choice lengths counts
  pub is_rule : r < g.rules
