-- All cheapest sentences: the working tables are filled, then the sentences are counted, or number k is written, or 12 to 16 given.
use Rattle.grammar.specs.declared.refusal.Refusal.{Refusal}
use Rattle.std.specs.Prelude.{Result}
use Rattle.grammar.specs.Lent.{outcome_of}
use Rattle.std.specs.Prelude.{not, ◌||◌, List, ◌⊎◌, ◌≡◌, ℕ, ◌≤◌, ◌<◌, eqb, leb, length, get_or}
use Rattle.theory.specs.Entries.{cost_max, length_max, count_max, count_none}
use Rattle.theory.specs.Definitions.{Sentence, cost_of, Productive}
use Rattle.theory.specs.Visits.{Costs}
use Rattle.theory.specs.Cheapest.{Circular}
use Rattle.theory.specs.Listing.{listed, sentence_at}
use Rattle.theory.specs.Counts.{CountExact}
use Rattle.grammar.specs.Flat.{Flat, denoted, price}
use Rattle.grammar.specs.Outcome.{Outcome, answers, refused, unless}
use Rattle.grammar.specs.Refusals.{unless_due}
use Rattle.tables.specs.Call.{Call}
use Rattle.engine.specs.Cost.{costs_of}
use Rattle.costs.specs.Defined.{CostDefined}
use Rattle.sentences.specs.Measuring.{LengthsDefined}
use Rattle.sentences.specs.Query.{Refuses, Writes}

-- counts: a number for each rule, 65537 for none known; none is known outside the rules
unfoldable pub counts_of : List ℕ → Costs
counts_of ws = λ r. get_or ws r count_none

-- each entry is the count of its rule, 65536 for more than 65535, 65537 where the rule is circular or has no cost
pub record CountsDefined (g : Flat) (c : Costs) (counts : List ℕ) : Type 0 where
  pub long : length counts ≡ g.rules
  pub exact : CountExact (denoted g) (price g) c (counts_of counts)

-- the working tables of both calls
pub record Work : Type 0 where
  pub cost : List ℕ
  pub lengths : List ℕ
  pub counts : List ℕ

abbrev pub work : (cost lengths counts : List ℕ) → Work
work cost lengths counts = record { cost = cost; lengths = lengths; counts = counts }

-- they hold their final values
pub record Final (g : Flat) (w : Work) : Type 0 where
  pub cost : CostDefined g w.cost
  pub lengths : LengthsDefined g (costs_of w.cost) w.lengths
  pub counts : CountsDefined g (costs_of w.cost) w.counts

-- 7: a lent table is not of its exact length; 9: the rule's number is R or more. By the lengths of the tables
abbrev pub due_by : Flat → ℕ → (cost lengths counts : ℕ) → Outcome (Unit {0})
due_by g r cost lengths counts =
    unless_due g
    (unless (not (eqb cost g.rules) || (not (eqb lengths g.rules) || not (eqb counts g.rules))) 7
    (unless (leb g.rules r) 9 (answers tt)))

-- the same of the tables
abbrev pub all_due : Flat → ℕ → Work → Outcome (Unit {0})
all_due g r w = due_by g r (length w.cost) (length w.lengths) (length w.counts)

-- rule r has a cost and is not circular, `c` being the COST table: it has a list
pub record Lists (g : Flat) (c : Costs) (r : ℕ) : Type 0 where
  pub priced : c r ≤ cost_max
  pub straight : Circular (denoted g) (price g) c r → ⊥

-- the count, `c` being the COST table:
-- 12 if the rule has no sentence, 13 if it has one but none costs 65535 or less, 14 if it is circular, 16 if there are more than 65535
pub record Counts (g : Flat) (c : Costs) (r : ℕ) (said : Outcome ℕ) : Type 0 where
  pub none : (Productive (denoted g) r → ⊥) → said ≡ refused 12
  pub dear : Productive (denoted g) r → ((w : List ℕ) → Sentence (denoted g) r w → cost_max < cost_of (price g) w) → said ≡ refused 13
  pub circular : Circular (denoted g) (price g) c r → said ≡ refused 14
  pub many : Lists g c r → count_max < length (listed (denoted g) (price g) c r) → said ≡ refused 16
  pub is : Lists g c r → length (listed (denoted g) (price g) c r) ≤ count_max → said ≡ answers (length (listed (denoted g) (price g) c r))

-- number k: 12 to 14 as above, 16 if there are more than 65535 or k is the count or more,
-- 15 if the sentence is longer than 65535 or than the room lent, else the sentence
pub record Numbers (g : Flat) (c : Costs) (r k : ℕ) (out : List ℕ) (said : Outcome ℕ) (out' : List ℕ) : Type 0 where
  pub none : (Productive (denoted g) r → ⊥) → Refuses 12 out said out'
  pub dear : Productive (denoted g) r → ((w : List ℕ) → Sentence (denoted g) r w → cost_max < cost_of (price g) w) → Refuses 13 out said out'
  pub circular : Circular (denoted g) (price g) c r → Refuses 14 out said out'
  pub past : Lists g c r → (count_max < length (listed (denoted g) (price g) c r)) ⊎ (length (listed (denoted g) (price g) c r) ≤ k) → Refuses 16 out said out'
  pub long : Lists g c r → length (listed (denoted g) (price g) c r) ≤ count_max → k < length (listed (denoted g) (price g) c r)
      → (length_max < length (sentence_at (denoted g) (price g) c r k)) ⊎ (length out < length (sentence_at (denoted g) (price g) c r k)) → Refuses 15 out said out'
  pub is : Lists g c r → length (listed (denoted g) (price g) c r) ≤ count_max → k < length (listed (denoted g) (price g) c r)
      → length (sentence_at (denoted g) (price g) c r k) ≤ length_max → length (sentence_at (denoted g) (price g) c r k) ≤ length out → Writes (sentence_at (denoted g) (price g) c r k) out said out'

-- the count call: the tables are final, whatever is said
pub record CountDone (g : Flat) (r : ℕ) (said : Outcome ℕ) (after : Work) : Type 0 where
  pub final : Final g after
  pub counts : Counts g (costs_of after.cost) r said

-- the promise of the count
abbrev pub CountMinSentences : Flat → ℕ → (cost lengths counts : List ℕ) → Result ℕ Refusal → (cost' lengths' counts' : List ℕ) → Type 0
CountMinSentences g r cost lengths counts a cost' lengths' counts' =
    Call (all_due g r (work cost lengths counts)) (CountDone g r) (work cost lengths counts) (outcome_of a) (work cost' lengths' counts')

-- what the call that writes is lent: the tables, and the output
pub record Lends : Type 0 where
  pub tables : Work
  pub out : List ℕ

abbrev pub lends : Work → List ℕ → Lends
lends w out = record { tables = w; out = out }

-- that call: the tables are final, whatever is said
pub record NumberDone (g : Flat) (r k : ℕ) (out : List ℕ) (said : Outcome ℕ) (after : Lends) : Type 0 where
  pub final : Final g after.tables
  pub numbers : Numbers g (costs_of after.tables.cost) r k out said after.out

-- the promise of number k
abbrev pub MinSentenceAt : Flat → ℕ → ℕ → (cost lengths counts out : List ℕ) → Result ℕ Refusal → (cost' lengths' counts' out' : List ℕ) → Type 0
MinSentenceAt g r k cost lengths counts out a cost' lengths' counts' out' =
    Call (all_due g r (work cost lengths counts)) (NumberDone g r k out) (lends (work cost lengths counts) out) (outcome_of a) (lends (work cost' lengths' counts') out')
