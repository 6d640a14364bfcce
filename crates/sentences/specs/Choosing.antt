-- First choices: a rule's productions, going up, to the first that costs what the rule does.
use Rattle.std.specs.Prelude.{true, false, List, ◌≡◌, ℕ, ◌+◌, ◌≤◌, ◌<◌, length, replicate}
use Rattle.theory.specs.Levels.{suits, Chosen}
use Rattle.grammar.specs.Flat.{Flat, at, denoted, price}
use Rattle.grammar.specs.Links.{Leads}
use Rattle.grammar.specs.Well.{WellFormed}
use Rattle.engine.specs.Cost.{costs_of}
use Rattle.sentences.specs.Lent.{choices_of}

-- what going up a rule's productions asks: a well-formed grammar, a cost for each rule, each production linked to the next of its rule, and p one of rule r's or past the last
pub record FromReady (g : Flat) (next cost : List ℕ) (r p : ℕ) : Type 0 where
  pub well : WellFormed g
  pub cost_long : length cost ≡ g.rules
  pub next_long : length next ≡ 4096
  pub nexts : (q : ℕ) → q < length g.owners → Leads g.owners (at g.owners q) (q + 1) (at next q)
  pub is_rule : r < g.rules
  pub owns : p < length g.owners → at g.owners p ≡ r

-- x is the first production of r from p on that costs what r does; 4096 where there is none
pub record CheapestFrom (g : Flat) (cost : List ℕ) (r p x : ℕ) : Type 0 where
  pub most : x ≤ 4096
  pub is_prod : x < 4096 → x < length g.owners
  pub low : x < 4096 → p ≤ x
  pub costs : x < 4096 → suits (denoted g) (price g) (costs_of cost) r x ≡ true
  pub first : (q : ℕ) → p ≤ q → q < x → q < length g.owners → suits (denoted g) (price g) (costs_of cost) r q ≡ false

-- what finding all first choices asks: no rule has one yet
pub record Choosable (g : Flat) (cost choice : List ℕ) : Type 0 where
  pub well : WellFormed g
  pub long : length cost ≡ g.rules
  pub none : choice ≡ replicate 512 4096

-- each rule's first choice, for exactly the rules that have one
pub record FirstChoices (g : Flat) (cost choice : List ℕ) : Type 0 where
  pub room : length choice ≡ 512
  pub chosen : Chosen (denoted g) (price g) (costs_of cost) (choices_of choice)
