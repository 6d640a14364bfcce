-- What counting by recursion over the depth asks and leaves.
use Rattle.std.specs.Prelude.{true, false, List, ◌≡◌, ℕ, ◌+◌, ◌≤◌, ◌<◌, min, length, get_or}
use Rattle.theory.specs.Entries.{count_many}
use Rattle.theory.specs.Visits.{Row, Costs, all_marked}
use Rattle.theory.specs.Listing.{listed, deep}
use Rattle.theory.specs.Counts.{form_ways}
use Rattle.theory.specs.Counting.{Counting, Keeps}
use Rattle.grammar.specs.Flat.{Flat, at, denoted, price, form}
use Rattle.grammar.specs.Links.{Leads}
use Rattle.grammar.specs.Well.{WellFormed}
use Rattle.engine.specs.Cost.{costs_of}
use Rattle.costs.specs.Defined.{CostDefined}
use Rattle.sentences.specs.Choosing.{FirstChoices}
use Rattle.listings.specs.Calls.{counts_of}

-- the rules whose depth, through all cheapest productions, is at most n, and how many sentences a rule's list has, by a COST table
abbrev pub deep_by : Flat → (cost : List ℕ) → ℕ → Row
deep_by g cost n = deep (denoted g) (price g) (costs_of cost) n

abbrev pub many_by : Flat → (cost : List ℕ) → Costs
many_by g cost = λ q. length (listed (denoted g) (price g) (costs_of cost) q)

-- each production's next of the same rule
pub record Nexts (g : Flat) (next : List ℕ) : Type 0 where
  pub long : length next ≡ 4096
  pub nexts : (q : ℕ) → q < length g.owners → Leads g.owners (at g.owners q) (q + 1) (at next q)

-- what counting and writing go by: a well-formed grammar, its COST table, its links and first choices
pub record Ground (g : Flat) (next cost choice : List ℕ) : Type 0 where
  pub well : WellFormed g
  pub links : Nexts g next
  pub prices : CostDefined g cost
  pub picks : FirstChoices g cost choice

-- numbers of levels by rule: none is too few outside the rules
unfoldable pub levels_of : List ℕ → Costs
levels_of ws = λ r. get_or ws r 0

-- counting so far
pub record CountBegun (g : Flat) (cost counts shallow : List ℕ) : Type 0 where
  pub long : length counts ≡ g.rules
  pub room : length shallow ≡ 512
  pub held : Counting (denoted g) (price g) (costs_of cost) (counts_of counts) (levels_of shallow)

-- it went on: what was known is still
pub record CountOn (g : Flat) (cost counts counts' shallow' : List ℕ) : Type 0 where
  pub begun : CountBegun g cost counts' shallow'
  pub keeps : Keeps (counts_of counts) (counts_of counts')

-- what a rule's count asks
pub record RuleCountable (g : Flat) (next cost choice : List ℕ) (levels r : ℕ) (counts shallow : List ℕ) : Type 0 where
  pub ground : Ground g next cost choice
  pub most : levels ≤ 512
  pub is_rule : r < g.rules
  pub begun : CountBegun g cost counts shallow

-- within so many levels it is known, and written down; or they are too few
pub record RuleCounts (g : Flat) (cost : List ℕ) (levels r : ℕ) (counts : List ℕ) (n : ℕ) (counts' shallow' : List ℕ) : Type 0 where
  pub on : CountOn g cost counts counts' shallow'
  pub known : n ≤ count_many → counts_of counts' r ≡ n
  pub none : count_many < n → deep_by g cost levels r ≡ false

-- what the count of the symbols from a up to e asks
pub record ProductionCountable (g : Flat) (next cost choice : List ℕ) (levels a e : ℕ) (counts shallow : List ℕ) : Type 0 where
  pub ground : Ground g next cost choice
  pub most : levels ≤ 512
  pub rise : a ≤ e
  pub inside : e ≤ length g.symbols
  pub begun : CountBegun g cost counts shallow

-- every rule of them is known, and this is the product, cut at 65536; or the levels are too few for some rule
pub record ProductionCounts (g : Flat) (cost : List ℕ) (levels a e : ℕ) (counts : List ℕ) (n : ℕ) (counts' shallow' : List ℕ) : Type 0 where
  pub on : CountOn g cost counts counts' shallow'
  pub within : n ≤ count_many → all_marked (deep_by g cost g.rules) (form g.symbols a e) ≡ true
  pub known : n ≤ count_many → n ≡ min (form_ways (many_by g cost) (form g.symbols a e)) count_many
  pub none : count_many < n → all_marked (deep_by g cost levels) (form g.symbols a e) ≡ false

-- what filling the counts asks
pub record CountFillable (g : Flat) (next cost choice counts : List ℕ) : Type 0 where
  pub ground : Ground g next cost choice
  pub long : length counts ≡ g.rules
