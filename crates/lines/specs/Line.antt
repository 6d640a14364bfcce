-- The report's lines.
use Rattle.std.specs.Prelude.{Bool, cond, List, [], ◌∷◌, ◌++◌, ℕ, leb}
use Rattle.theory.specs.Entries.{cost_max, cost_dear}
use Rattle.lines.specs.Text.{digit, decimal, between, spaced}

-- the last field: a cost, or `none` or `dear` (refusals 12, 13)
pub data Price : Type 0 where
  amount : ℕ → Price
  none dear : Price

-- a line's five fields: number, EMPTY, FIRST, FOLLOW, cost
pub record Entry : Type 0 where
  pub number : ℕ
  pub empty : Bool
  pub first : List ℕ
  pub follow : List ℕ
  pub cost : Price

-- EMPTY as 0 or 1
abbrev pub flag : Bool → ℕ
flag b = cond b (digit 1) (digit 0)

-- the word `none`
abbrev pub none_word : List ℕ
none_word = 110 ∷ 111 ∷ 110 ∷ 101 ∷ []

-- the word `dear`
abbrev pub dear_word : List ℕ
dear_word = 100 ∷ 101 ∷ 97 ∷ 114 ∷ []

-- cost or `none` or `dear`
unfoldable pub priced : Price → List ℕ
priced (amount n) = decimal n
priced none = none_word
priced dear = dear_word

-- the last field, from COST's entry: the cost, `dear`, or `none` where none is known
unfoldable pub price_of : ℕ → Price
price_of n = cond (leb n cost_max) (amount n) (cond (leb n cost_dear) dear none)

-- a line for a rule, with commas, 44, between its five fields; each line ends in a line feed, 10
unfoldable pub line_of : Entry → List ℕ
line_of e = between 44 (decimal e.number ∷ (flag e.empty ∷ []) ∷ spaced e.first ∷ spaced e.follow ∷ priced e.cost ∷ []) ++ (10 ∷ [])

-- the fixed heading `rule,empty,first,follow,cost`, and its line feed
abbrev pub heading_of : List ℕ
heading_of = 114 ∷ 117 ∷ 108 ∷ 101 ∷ 44 ∷ 101 ∷ 109 ∷ 112 ∷ 116 ∷ 121 ∷ 44 ∷ 102 ∷ 105 ∷ 114 ∷ 115 ∷ 116 ∷ 44 ∷ 102 ∷ 111 ∷ 108 ∷ 108 ∷ 111 ∷ 119 ∷ 44 ∷ 99 ∷ 111 ∷ 115 ∷ 116 ∷ 10 ∷ []

-- the word `refused ` and its space
abbrev pub refused_word : List ℕ
refused_word = 114 ∷ 101 ∷ 102 ∷ 117 ∷ 115 ∷ 101 ∷ 100 ∷ 32 ∷ []

-- for a refused file: `refused ` and the number
unfoldable pub refused_of : ℕ → List ℕ
refused_of n = refused_word ++ (decimal n ++ (10 ∷ []))
