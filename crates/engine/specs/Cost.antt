-- COST as lent words, the costs that they hold, one production's step on them, and the rules that a round has read.
use Rattle.std.specs.Prelude.{Bool, true, false, List, [], ◌∷◌, ◌≡◌, ℕ, ◌+◌, ◌≤◌, ◌<◌, min, leb, get_or, length}
use Rattle.theory.specs.Entries.{cost_dear, cost_unknown}
use Rattle.theory.specs.Grammar.{Form}
use Rattle.theory.specs.Visits.{Costs, all_marked, form_cost, known, sum_cost, cost_visit}
use Rattle.grammar.specs.Flat.{at, symbol, Flat, denoted, price}
use Rattle.grammar.specs.Well.{WellFormed}
use Rattle.theory.specs.Fills.{Settles}
use Rattle.tables.specs.Call.{Stepped}

-- COST: R numbers, 0..65535, 65536 dear, 65537 none known; none is known outside the rules
unfoldable pub costs_of : List ℕ → Costs
costs_of ws = λ r. get_or ws r cost_unknown

-- a part of a sum, with k for the tokens and c for the rules: symbol s adds x, which is at most 65536 exactly if it is known
pub record Part (k : ℕ → ℕ) (c : Costs) (s x : ℕ) : Type 0 where
  pub adds : form_cost k c (symbol s ∷ []) ≡ x
  pub told : all_marked (known c) (symbol s ∷ []) ≡ leb x cost_dear

-- the sum of a form: the cost, or dear, or unknown
unfoldable pub sum_of : (costs cost : List ℕ) → Form → ℕ
sum_of costs cost α = sum_cost (at costs) (costs_of cost) α

-- what it takes to look up a symbol's cost
pub record SymbolPriced (costs cost : List ℕ) (s : ℕ) : Type 0 where
  pub token : s < 32768 → s < length costs
  pub rule : 32768 ≤ s → s < 32768 + length cost

-- what it takes to add up the symbols from a up to e
pub record Pricing (symbols costs : List ℕ) (a e : ℕ) (cost : List ℕ) : Type 0 where
  pub rise : a ≤ e
  pub fits : e ≤ length symbols
  pub symbol : (k : ℕ) → k < length symbols → SymbolPriced costs cost (at symbols k)

-- what a step of COST asks: a well-formed grammar, one of its productions, a number for each rule
pub record CostReady (g : Flat) (p : ℕ) (cost : List ℕ) : Type 0 where
  pub well : WellFormed g
  pub is_prod : p < length g.owners
  pub long : length cost ≡ g.rules

-- COST: the owner's entry becomes the smaller of itself and the sum, if that is known
pub record CostBecame (g : Flat) (p : ℕ) (ws to : List ℕ) : Type 0 where
  pub long : length to ≡ length ws
  pub entries : (r : ℕ) → costs_of to r ≡ cost_visit (denoted g) (price g) p (costs_of ws) r

-- numbers of their length stay so
abbrev pub Long : List ℕ → List ℕ → Type 0
Long a b = length b ≡ length a

-- rounds were made until none would change anything
abbrev pub CostSettled : Flat → List ℕ → List ℕ → Type 0
CostSettled g = Settles (cost_visit (denoted g) (price g)) costs_of Long (length g.owners)

-- d has c's entries of the rules that were read
abbrev pub Agrees : List Bool → (d c : Costs) → Type 0
Agrees read d c = (r : ℕ) → get_or read r false ≡ true → d r ≡ c r

-- no rule that was read is forgotten
pub record Adds (before after : List Bool) : Type 0 where
  pub long : length after ≡ length before
  pub keeps : (r : ℕ) → get_or before r false ≡ true → get_or after r false ≡ true

-- what it takes to read a symbol's cost
pub record Readable (costs cost : List ℕ) (s : ℕ) (read : List Bool) : Type 0 where
  pub priced : SymbolPriced costs cost s
  pub few : length cost ≤ 512
  pub long : length read ≡ 512

-- symbol s adds x by each table that agrees on what is read then
pub record ReadsCost (costs cost : List ℕ) (s : ℕ) (read : List Bool) (x : ℕ) (read' : List Bool) : Type 0 where
  pub adds : Adds read read'
  pub same : (d : Costs) → Agrees read' d (costs_of cost) → Part (at costs) d s x

-- what it takes to read the symbols from a up to e
pub record Summable (symbols costs : List ℕ) (a e : ℕ) (cost : List ℕ) (top : ℕ) (read : List Bool) : Type 0 where
  pub upto : top ≤ cost_unknown
  pub pricing : Pricing symbols costs a e cost
  pub few : length cost ≤ 512
  pub long : length read ≡ 512

-- the sum of a form, or `top` where it comes to that, is x by each table that agrees on what is read then
pub record ReadsSum (top : ℕ) (costs cost : List ℕ) (α : Form) (read : List Bool) (x : ℕ) (read' : List Bool) : Type 0 where
  pub adds : Adds read read'
  pub same : (d : Costs) → Agrees read' d (costs_of cost) → min (sum_cost (at costs) d α) top ≡ x

-- production p's visit changes no table that has c's entries of what was read, and no entry above c's
abbrev pub Calm : Flat → ℕ → List Bool → Costs → Type 0
Calm g p read c = (d : Costs) → ((r : ℕ) → d r ≤ c r) → Agrees read d c → cost_visit (denoted g) (price g) p d ≡ d

-- what a step asks that marks what it reads
pub record Lowerable (g : Flat) (p : ℕ) (cost : List ℕ) (read : List Bool) : Type 0 where
  pub ready : CostReady g p cost
  pub long : length read ≡ 512

-- the step, and `late`: it changed an entry that was read before; if not, production p is calm
pub record Lowers (g : Flat) (p : ℕ) (cost : List ℕ) (read : List Bool) (changed late : Bool) (to : List ℕ) (read' : List Bool) : Type 0 where
  pub steps : Stepped (CostBecame g p cost) cost changed to
  pub adds : Adds read read'
  pub told : late ≡ true → changed ≡ true
  pub kept : late ≡ false → Agrees read' (costs_of to) (costs_of cost)
  pub calm : late ≡ false → Calm g p read' (costs_of to)
