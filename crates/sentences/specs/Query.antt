-- The cheapest sentence: the working tables are filled, then the sentence is written, or 12 to 15 given.
use Rattle.grammar.specs.Lent.{outcome_of}
use Rattle.std.specs.Prelude.{Result, ◌||◌, List, [], ◌∷◌, ◌++◌, ◌⊎◌, ◌≡◌, ℕ, ◌≤◌, ◌<◌, leb, length, drop}
use Rattle.theory.specs.Entries.{cost_max, length_max}
use Rattle.theory.specs.Definitions.{Sentence, cost_of, Productive, Cost}
use Rattle.theory.specs.Grammar.{rul}
use Rattle.theory.specs.Sentences.{Grounded, Expands}
use Rattle.theory.specs.Visits.{Costs}
use Rattle.grammar.specs.Flat.{Flat, denoted, price}
use Rattle.grammar.specs.declared.refusal.Refusal.{Refusal}
use Rattle.grammar.specs.Outcome.{Outcome, answers, refused, unless}
use Rattle.grammar.specs.Refusals.{unless_due}
use Rattle.tables.specs.Call.{Call}
use Rattle.tables.specs.Sizes.{numbers_wrong}
use Rattle.engine.specs.Cost.{costs_of}
use Rattle.costs.specs.Defined.{CostDefined}
use Rattle.sentences.specs.Measuring.{LengthsDefined}

-- what is lent: the working tables (COST and one length number a rule), and the output
pub record Lends : Type 0 where
  pub cost : List ℕ
  pub lengths : List ℕ
  pub out : List ℕ

abbrev pub lends : (cost lengths out : List ℕ) → Lends
lends cost lengths out = record { cost = cost; lengths = lengths; out = out }

-- 7: a lent table is not of its exact length; 9: the rule's number is R or more
abbrev pub sentence_due : Flat → ℕ → Lends → Outcome (Unit {0})
sentence_due g r m =
    unless_due g (unless (numbers_wrong g.rules m.cost || numbers_wrong g.rules m.lengths) 7 (unless (leb g.rules r) 9 (answers tt)))

-- a refusal answers its number, and the output is untouched
pub record Refuses (n : ℕ) (out : List ℕ) (said : Outcome ℕ) (out' : List ℕ) : Type 0 where
  pub number : said ≡ refused n
  pub kept : out' ≡ out

-- the answer is the sentence's length, the output starts with its tokens, and the rest of the output is untouched
pub record Writes (w out : List ℕ) (said : Outcome ℕ) (out' : List ℕ) : Type 0 where
  pub number : said ≡ answers (length w)
  pub tokens : out' ≡ w ++ drop (length w) out

-- what is said of rule r, `c` being the COST table:
-- 12 if it has no sentence, 13 if it has one but none costs 65535 or less, 14 if it is ungrounded,
-- 15 if its sentence is longer than 65535 or than the room lent, else the sentence, each rule replaced by its first choice
pub record Says (g : Flat) (c : Costs) (r : ℕ) (out : List ℕ) (said : Outcome ℕ) (out' : List ℕ) : Type 0 where
  pub none : (Productive (denoted g) r → ⊥) → Refuses 12 out said out'
  pub dear : Productive (denoted g) r → ((w : List ℕ) → Sentence (denoted g) r w → cost_max < cost_of (price g) w) → Refuses 13 out said out'
  pub circular : (n : ℕ) → n ≤ cost_max → Cost (denoted g) (price g) r n → (Grounded (denoted g) (price g) c (rul r ∷ []) → ⊥) → Refuses 14 out said out'
  pub long : (w : List ℕ) → Expands (denoted g) (price g) c (rul r ∷ []) w → (length_max < length w) ⊎ (length out < length w) → Refuses 15 out said out'
  pub is : (w : List ℕ) → Expands (denoted g) (price g) c (rul r ∷ []) w → length w ≤ length_max → length w ≤ length out → Writes w out said out'

-- the working tables hold their final values, whatever is said
pub record Sentenced (g : Flat) (r : ℕ) (out : List ℕ) (said : Outcome ℕ) (after : Lends) : Type 0 where
  pub cost : CostDefined g after.cost
  pub lengths : LengthsDefined g (costs_of after.cost) after.lengths
  pub says : Says g (costs_of after.cost) r out said after.out

-- the promise
abbrev pub MinSentence : Flat → ℕ → (cost lengths out : List ℕ) → Result ℕ Refusal → (cost' lengths' out' : List ℕ) → Type 0
MinSentence g r cost lengths out a cost' lengths' out' = Call (sentence_due g r (lends cost lengths out)) (Sentenced g r out) (lends cost lengths out) (outcome_of a) (lends cost' lengths' out')
