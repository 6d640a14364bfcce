-- Lengths on lent numbers: one rule's step, rounds of it, and what they leave.
use Rattle.std.specs.Prelude.{Bool, List, ◌≡◌, ℕ, ◌+◌, ◌≤◌, ◌<◌, length}
use Rattle.theory.specs.Fills.{turns, Moves, Settles}
use Rattle.theory.specs.Grammar.{Form}
use Rattle.theory.specs.Levels.{Chosen, length_visit, LengthTrue, LengthExact}
use Rattle.theory.specs.Visits.{Costs, sum_cost}
use Rattle.grammar.specs.Flat.{Flat, at, denoted, price}
use Rattle.grammar.specs.Well.{WellFormed}
use Rattle.sentences.specs.Lent.{choices_of, lengths_of}

-- the token count of a form, 65536 if above 65535, 65537 if some rule's is not known: the sum in which a token adds 1 and a rule its entry
unfoldable pub count_of : List ℕ → Form → ℕ
count_of lengths α = sum_cost (λ t. 1) (lengths_of lengths) α

-- what it takes to look up a symbol's length
pub record SymbolCounted (lengths : List ℕ) (s : ℕ) : Type 0 where
  pub rule : 32768 ≤ s → s < 32768 + length lengths

-- what it takes to count the symbols from a up to e
pub record Countable (symbols : List ℕ) (a e : ℕ) (lengths : List ℕ) : Type 0 where
  pub rise : a ≤ e
  pub fits : e ≤ length symbols
  pub symbol : (k : ℕ) → k < length symbols → SymbolCounted lengths (at symbols k)

-- the choices are first choices by some COST table
pub record ChosenBy (g : Flat) (choice : List ℕ) : Type 0 where
  pub room : length choice ≡ 512
  pub table : Costs
  pub chosen : Chosen (denoted g) (price g) table (choices_of choice)

-- what a rule's step asks: a well-formed grammar, first choices, one of its rules, a number for each rule
pub record LengthReady (g : Flat) (choice : List ℕ) (r : ℕ) (lengths : List ℕ) : Type 0 where
  pub well : WellFormed g
  pub picks : ChosenBy g choice
  pub is_rule : r < g.rules
  pub long : length lengths ≡ g.rules

-- rule r's entry becomes the count of its first choice, if that is known
pub record LengthBecame (g : Flat) (choice : List ℕ) (r : ℕ) (ws to : List ℕ) : Type 0 where
  pub long : length to ≡ length ws
  pub entries : (q : ℕ) → lengths_of to q ≡ length_visit (denoted g) (choices_of choice) r (lengths_of ws) q

-- numbers of their length stay so
abbrev pub Long : List ℕ → List ℕ → Type 0
Long a b = length b ≡ length a

-- what a round asks: entries that are true, none outside the rules
pub record LengthBegun (g : Flat) (choice lengths : List ℕ) : Type 0 where
  pub well : WellFormed g
  pub picks : ChosenBy g choice
  pub long : length lengths ≡ g.rules
  pub held : LengthTrue (denoted g) (price g) picks.table (lengths_of lengths)

-- a round over the rules, up or down, was made
abbrev pub LengthRounds : Flat → List ℕ → Bool → List ℕ → Bool → List ℕ → Type 0
LengthRounds g choice down = Moves (length_visit (denoted g) (choices_of choice)) lengths_of Long (turns down g.rules g.rules)

-- rounds were made until none would change anything
abbrev pub LengthSettled : Flat → List ℕ → List ℕ → List ℕ → Type 0
LengthSettled g choice = Settles (length_visit (denoted g) (choices_of choice)) lengths_of Long g.rules

-- what a fill asks
pub record LengthFillable (g : Flat) (choice lengths : List ℕ) : Type 0 where
  pub well : WellFormed g
  pub picks : ChosenBy g choice
  pub long : length lengths ≡ g.rules

-- each entry is the token count of its rule's sentence, 65536 if longer than 65535, 65537 if the rule is ungrounded or has no cost
pub record LengthsDefined (g : Flat) (c : Costs) (lengths : List ℕ) : Type 0 where
  pub long : length lengths ≡ g.rules
  pub exact : LengthExact (denoted g) (price g) c (lengths_of lengths)

-- the same by each COST table whose first choices they are
abbrev pub LengthsBy : Flat → List ℕ → List ℕ → Type 0
LengthsBy g choice lengths = (c : Costs) → Chosen (denoted g) (price g) c (choices_of choice) → LengthsDefined g c lengths
