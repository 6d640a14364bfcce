-- What finding, measuring and writing number k of a rule ask and leave.
use Rattle.std.specs.Prelude.{true, List, ◌≡◌, ℕ, ◌+◌, ◌≤◌, ◌<◌, length, get_or, take, replicate}
use Rattle.theory.specs.Entries.{count_max}
use Rattle.theory.specs.Visits.{all_marked}
use Rattle.theory.specs.Listing.{Item, nothing, listing}
use Rattle.theory.specs.Counts.{form_ways}
use Rattle.theory.specs.Odometer.{Fits, places, picked, Found}
use Rattle.grammar.specs.Flat.{Flat, at, denoted, price, form}
use Rattle.engine.specs.Cost.{costs_of}
use Rattle.sentences.specs.Expanding.{Remembers}
use Rattle.sentences.specs.Measuring.{SymbolCounted, LengthsDefined}
use Rattle.listings.specs.Calls.{counts_of, CountsDefined}
use Rattle.listings.specs.Counting.{deep_by, Ground}

-- what it takes to collect the places: at most 16 have a choice
pub record PlacesReady (symbols : List ℕ) (a e : ℕ) (counts bases : List ℕ) : Type 0 where
  pub rise : a ≤ e
  pub inside : e ≤ length symbols
  pub symbol : (k : ℕ) → k < length symbols → SymbolCounted counts (at symbols k)
  pub few : length (places (counts_of counts) (form symbols a e)) ≤ 16
  pub room : length bases ≡ 16

-- the first m numbers are the places
pub record Places (symbols : List ℕ) (a e : ℕ) (counts : List ℕ) (m : ℕ) (bases : List ℕ) : Type 0 where
  pub many : m ≡ length (places (counts_of counts) (form symbols a e))
  pub room : length bases ≡ 16
  pub is : take m bases ≡ places (counts_of counts) (form symbols a e)

-- what number k of a rule asks: the defined counts, a rule within the levels, a count of at most 65535, and k below it
pub record Numbered (g : Flat) (next cost choice counts : List ℕ) (levels r k : ℕ) : Type 0 where
  pub ground : Ground g next cost choice
  pub counts_defined : CountsDefined g (costs_of cost) counts
  pub is_rule : r < g.rules
  pub within : deep_by g cost levels r ≡ true
  pub few : counts_of counts r ≤ count_max
  pub below : k < counts_of counts r

-- what finding it asks: the levels are those of the rules inside; no place is turned yet
pub record NumberReady (g : Flat) (next cost choice counts : List ℕ) (levels r k : ℕ) (todo : List ℕ) : Type 0 where
  pub numbered : Numbered g next cost choice counts (levels + 1) r k
  pub begun : todo ≡ replicate 16 0

-- the lists of all rules, by a COST table
abbrev pub lists_by : Flat → (cost : List ℕ) → (levels : ℕ) → ℕ → List Item
lists_by g cost levels = listing (denoted g) (price g) (costs_of cost) levels

-- where number k was found: production p with the choice that `todo` shows
pub record Finds (g : Flat) (cost counts : List ℕ) (levels r k p : ℕ) (todo : List ℕ) : Type 0 where
  pub room : length todo ≡ 16
  pub found : Found (denoted g) (price g) (costs_of cost) (lists_by g cost levels) (counts_of counts) r k p (take (length (places (counts_of counts) ((denoted g).body p))) todo)

-- the sentence of number k of a rule, and what the symbols from a up to e stand for with a choice
abbrev pub rule_words : Flat → (cost : List ℕ) → (levels r k : ℕ) → List ℕ
rule_words g cost levels r k = (get_or (lists_by g cost levels r) k nothing).tokens

abbrev pub production_words : Flat → (cost counts : List ℕ) → (levels a e : ℕ) → List ℕ → List ℕ
production_words g cost counts levels a e todo = (picked (lists_by g cost levels) (counts_of counts) (form g.symbols a e) todo).tokens

-- what measuring asks besides: the defined lengths
pub record RuleMeasurable (g : Flat) (next cost choice lengths counts : List ℕ) (levels r k : ℕ) : Type 0 where
  pub numbered : Numbered g next cost choice counts levels r k
  pub lengths_defined : LengthsDefined g (costs_of cost) lengths

-- of a production: its rules are within the levels and have at most 65535 sentences each, and the choice is one of its places'
pub record ProductionMeasurable (g : Flat) (next cost choice lengths counts : List ℕ) (levels a e : ℕ) (todo : List ℕ) : Type 0 where
  pub ground : Ground g next cost choice
  pub counts_defined : CountsDefined g (costs_of cost) counts
  pub lengths_defined : LengthsDefined g (costs_of cost) lengths
  pub rise : a ≤ e
  pub inside : e ≤ length g.symbols
  pub within : all_marked (deep_by g cost levels) (form g.symbols a e) ≡ true
  pub few : form_ways (counts_of counts) (form g.symbols a e) ≤ count_max
  pub room : length todo ≡ 16
  pub fits : Fits (places (counts_of counts) (form g.symbols a e)) (take (length (places (counts_of counts) (form g.symbols a e))) todo)

-- what writing asks besides: room, and that what is remembered stands
pub record RuleWritable (g : Flat) (next cost choice lengths counts : List ℕ) (levels r k place : ℕ) (begun out : List ℕ) : Type 0 where
  pub measure : RuleMeasurable g next cost choice lengths counts levels r k
  pub room : place + length (rule_words g cost levels r k) ≤ length out
  pub most : place + length (rule_words g cost levels r k) ≤ 65535
  pub remembers : Remembers g choice begun place out

pub record ProductionWritable (g : Flat) (next cost choice lengths counts : List ℕ) (levels a e : ℕ) (todo : List ℕ) (place : ℕ) (begun out : List ℕ) : Type 0 where
  pub measure : ProductionMeasurable g next cost choice lengths counts levels a e todo
  pub room : place + length (production_words g cost counts levels a e todo) ≤ length out
  pub most : place + length (production_words g cost counts levels a e todo) ≤ 65535
  pub remembers : Remembers g choice begun place out
