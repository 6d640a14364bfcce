-- The kinds of table, and what each lends to the one loop: how lent words are seen, its step, what a step keeps and asks.
use Rattle.std.specs.Prelude.{Bool, true, false, cond, List, ◌≡◌, ℕ, ◌-◌, ◌≤◌, ◌<◌, eqb, length}
use Rattle.theory.specs.Entries.{cost_unknown}
use Rattle.theory.specs.Fills.{turns, Moves, Settles}
use Rattle.theory.specs.Rounds.{Rest}
use Rattle.theory.specs.Visits.{Marks, Table, Row, Costs, first_visit, productive_visit, cost_visit}
use Rattle.grammar.specs.Flat.{Flat, denoted, price}
use Rattle.grammar.specs.Well.{WellFormed}
use Rattle.rows.specs.Tables.{Sized}
use Rattle.tables.specs.Call.{Stepped}
use Rattle.tables.specs.Sizes.{words}
use Rattle.engine.specs.First.{Lent, Held as FirstHeld, Spared as FirstSpared, marks_of, FirstBecame, plain}
use Rattle.engine.specs.Follow.{Reads, ReadHeld, table_of, reached_of, Spared as FollowSpared, visit_of, FollowBecame, Fed}
use Rattle.engine.specs.Productive.{row_of, RowSpared, ProductiveBecame}
use Rattle.engine.specs.Cost.{costs_of, Long, CostBecame, Calm as CostCalm}

-- FOLLOW has what its visits read
pub data Kind : Type 0 where
  first : Kind
  follow : Reads → Kind
  productive cost : Kind

-- a fact of the table alone, and the row beside it as it was
pub record Beside (F : List ℕ → List ℕ → Type 0) (a b : Lent) : Type 0 where
  pub table : F a.first b.first
  pub row : b.empty ≡ a.empty

-- what lent words show: FIRST and EMPTY are two tables, the others one
abbrev pub Seen : Kind → Type 0
Seen first = Marks
Seen (follow read) = Table
Seen productive = Row
Seen cost = Costs

-- the lent words as the table of their kind
abbrev pub kind_view : (k : Kind) → Flat → Lent → Seen k
kind_view first g l = marks_of g.rules (length g.costs) l
kind_view (follow read) g l = table_of g.rules (length g.costs) l.first
kind_view productive g l = row_of g.rules l.first
kind_view cost g l = costs_of l.first

-- a production's visit
abbrev pub makes : (k : Kind) → Flat → ℕ → Seen k → Seen k
makes first g = first_visit (denoted g)
makes (follow read) g = visit_of g read
makes productive g = productive_visit (denoted g)
makes cost g = cost_visit (denoted g) (price g)

-- what a step leaves as it was: the spare bits, COST's length, the row beside the table
abbrev pub Keeps : Kind → Flat → Lent → Lent → Type 0
Keeps first g = FirstSpared g.rules (length g.costs)
Keeps (follow read) g = Beside (FollowSpared g.rules (length g.costs))
Keeps productive g = Beside (RowSpared g.rules)
Keeps cost g = Beside Long

-- tables of their lengths
abbrev pub KindHeld : Kind → Flat → Lent → Type 0
KindHeld first g l = FirstHeld g.rules (length g.costs) l
KindHeld (follow read) g l = Sized g.rules (words (length g.costs)) l.first
KindHeld productive g l = Sized 1 (words g.rules) l.first
KindHeld cost g l = length l.first ≡ g.rules

-- and so are those that are read
abbrev pub ReadsHeld : Kind → Flat → Type 0
ReadsHeld first g = Unit {0}
ReadsHeld (follow read) g = ReadHeld g read
ReadsHeld productive g = Unit {0}
ReadsHeld cost g = Unit {0}

-- what else a begun table is: FIRST has no mark for eof, COST no entry above 65537
abbrev pub Fit : Kind → Flat → Lent → Type 0
Fit first g l = (r : ℕ) → (marks_of g.rules (length g.costs) l).first r (length g.costs - 1) ≡ false
Fit (follow read) g l = Unit {0}
Fit productive g l = Unit {0}
Fit cost g l = (r : ℕ) → costs_of l.first r ≤ cost_unknown

-- what holds of production p after its visit: a plain one is quiet, one of a reached rule is fed
abbrev pub Served : (k : Kind) → Flat → ℕ → Seen k → Type 0
Served first g p m = plain ((denoted g).body p) ≡ true → first_visit (denoted g) p m ≡ m
Served (follow read) g p f = reached_of g.rules read.reached ((denoted g).owner p) ≡ true → Fed (marks_of g.rules (length g.costs) read.firsts) ((denoted g).body p) f
Served productive g p s = Unit {0}
Served cost g p s = Unit {0}

-- production p's visit changes nothing; COST's none as long as what was read stays
abbrev pub Quiet : (k : Kind) → Flat → ℕ → Lent → Type 0
Quiet k g p l = makes k g p (kind_view k g l) ≡ kind_view k g l

-- COST's production is calm as long as no rule that was read changes, any other if it is quiet
abbrev pub Calm : (k : Kind) → Flat → ℕ → List Bool → Lent → Type 0
Calm first g p read l = Quiet first g p l
Calm (follow from) g p read l = Quiet (follow from) g p l
Calm productive g p read l = Quiet productive g p l
Calm cost g p read l = CostCalm g p read (costs_of l.first)

-- lent words after production p's step, by kind
abbrev pub KindBecame : Kind → Flat → ℕ → Lent → Lent → Type 0
KindBecame first g p = FirstBecame g p
KindBecame (follow read) g p = Beside (FollowBecame g read p)
KindBecame productive g p = Beside (ProductiveBecame g p)
KindBecame cost g p = Beside (CostBecame g p)

-- what a step asks; `again` if each production had its turn
pub record Ready (k : Kind) (g : Flat) (again : Bool) (p : ℕ) (l : Lent) (read : List Bool) : Type 0 where
  pub well : WellFormed g
  pub is_prod : p < length g.owners
  pub held : KindHeld k g l
  pub reads : ReadsHeld k g
  pub due : again ≡ true → Served k g p (kind_view k g l)
  pub long : length read ≡ 512

-- a step was made; unless `more`, production p is calm now, and so is each that was
pub record Steps (k : Kind) (g : Flat) (p : ℕ) (l : Lent) (read : List Bool) (changed more : Bool) (to : Lent) (read' : List Bool) : Type 0 where
  pub steps : Stepped (KindBecame k g p l) l changed to
  pub long : length read' ≡ length read
  pub told : more ≡ true → changed ≡ true
  pub calm : more ≡ false → Calm k g p read' to
  pub stays : more ≡ false → (q : ℕ) → Calm k g q read l → Calm k g q read' to

-- what rounds ask
pub record Begun (k : Kind) (g : Flat) (l : Lent) : Type 0 where
  pub well : WellFormed g
  pub held : KindHeld k g l
  pub fit : Fit k g l
  pub reads : ReadsHeld k g

-- what one round asks
pub record RoundReady (k : Kind) (g : Flat) (again : Bool) (l : Lent) : Type 0 where
  pub begun : Begun k g l
  pub due : again ≡ true → (p : ℕ) → p < length g.owners → Served k g p (kind_view k g l)

-- a round up or down was made; unless `more`, no visit would change anything
pub record Rounds (k : Kind) (g : Flat) (down : Bool) (before : Lent) (more : Bool) (after : Lent) : Type 0 where
  pub changed : Bool
  pub moves : Moves (makes k g) (kind_view k g) (Keeps k g) (turns down (length g.owners) (length g.owners)) before changed after
  pub told : more ≡ true → changed ≡ true
  pub rests : more ≡ false → Rest (makes k g) (length g.owners) (kind_view k g after)

-- rounds were made until none would change anything
abbrev pub Settled : Kind → Flat → Lent → Lent → Type 0
Settled k g = Settles (makes k g) (kind_view k g) (Keeps k g) (length g.owners)
