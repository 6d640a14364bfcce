-- The rows of productions as words: what the functions below the public call ask and leave.
use Rattle.std.specs.Prelude.{Bool, List, Option, None, Some, IfSome, ◌≡◌, ℕ, suc, ◌*◌, ◌≤◌, ◌<◌, ltb, length, replicate}
use Rattle.theory.specs.Below.{FirstBelow}
use Rattle.theory.specs.Clashes.{row_of, shares_of, above_of, Lowest}
use Rattle.theory.specs.Visits.{Table, Marks}
use Rattle.grammar.specs.Flat.{Flat, denoted}
use Rattle.grammar.specs.Well.{WellFormed}
use Rattle.rows.specs.Marks.{mark, Small}
use Rattle.rows.specs.Tables.{Sized}
use Rattle.tables.specs.Sizes.{words}
use Rattle.engine.specs.First.{Lent as Firsts, Held, marks_of, Walkable as Forth, Walks}
use Rattle.engine.specs.Follow.{table_of}
use Rattle.profiles.specs.declared.inner.Low.{Low}

-- the words of a row: a mark for each of 512 tokens, and one for the place of T
abbrev pub row_words : ℕ
row_words = 17

-- R rows that have these marks and no other
pub record Shows (R : ℕ) (h : Table) (ws : List ℕ) : Type 0 where
  pub room : R * row_words ≤ length ws
  pub small : Small ws
  pub marks : (r t : ℕ) → r < R → t < row_words * 32 → mark row_words ws r t ≡ h r t

-- what FIRST's walk over the symbols from a up to e asks, for a row that is zero
pub record Walkable (R T : ℕ) (symbols : List ℕ) (a e : ℕ) (l : Firsts) (row : List ℕ) : Type 0 where
  pub forth : Forth R T symbols a e 0 l
  pub zero : row ≡ replicate row_words 0

-- and what it leaves
pub record Walked (R T : ℕ) (symbols : List ℕ) (a e : ℕ) (l : Firsts) (ws : List ℕ) (past : Bool) (to : List ℕ) : Type 0 where
  pub new : Bool
  pub walks : Walks R T symbols a e 0 l ws new past to

-- what is read: a well-formed grammar, tables of their lengths
pub record Readable (g : Flat) (read : Firsts) (follow : List ℕ) : Type 0 where
  pub well : WellFormed g
  pub held : Held g.rules (length g.costs) read
  pub follows : Sized g.rules (words (length g.costs)) follow

-- and one of its productions
pub record Rowable (g : Flat) (read : Firsts) (follow : List ℕ) (p : ℕ) : Type 0 where
  pub reads : Readable g read follow
  pub is_prod : p < length g.owners

-- the marks that the tables hold
abbrev pub marks_in : Flat → Firsts → Marks
marks_in g read = marks_of g.rules (length g.costs) read

abbrev pub follow_in : Flat → List ℕ → Table
follow_in g follow = table_of g.rules (length g.costs) follow

-- production p's row
abbrev pub RowIs : Flat → Firsts → List ℕ → (p : ℕ) → (row : List ℕ) → Type 0
RowIs g read follow p row = Shows 1 (λ _ t. row_of (denoted g) (marks_in g read) (follow_in g follow) p t) row

-- the rows of the productions from i on, joined for each rule
abbrev pub AboveIs : Flat → Firsts → List ℕ → (i : ℕ) → (above : List ℕ) → Type 0
AboveIs g read follow i above = Shows g.rules (above_of (denoted g) (marks_in g read) (follow_in g follow) i) above

-- the least clash among the productions from i on
abbrev pub LowestIs : Flat → Firsts → List ℕ → (i rule lower : ℕ) → Type 0
LowestIs g read follow i rule lower = Lowest (denoted g) (marks_in g read) (follow_in g follow) i rule lower

-- its rule and its lower production, as the code has them: rule R for None
abbrev pub rule_in : ℕ → Option Low → ℕ
rule_in R None = R
rule_in R (Some low) = low.rule

abbrev pub lower_in : Option Low → ℕ
lower_in None = 0
lower_in (Some low) = low.lower

-- the least clash among them as the code has it, where the rule of one that is found is a rule
pub record LeastIs (g : Flat) (read : Firsts) (follow : List ℕ) (i : ℕ) (low : Option Low) : Type 0 where
  pub lowest : LowestIs g read follow i (rule_in g.rules low) (lower_in low)
  pub is_rule : IfSome low (λ l. l.rule < g.rules)

-- what production p's turn asks: the productions above it have had theirs
pub record Turnable (g : Flat) (read : Firsts) (follow : List ℕ) (p : ℕ) (low : Option Low) (above : List ℕ) : Type 0 where
  pub rows : Rowable g read follow p
  pub stands : AboveIs g read follow (suc p) above
  pub least : LeastIs g read follow (suc p) low

-- what it leaves
pub record Turns (g : Flat) (read : Firsts) (follow : List ℕ) (p : ℕ) (low : Option Low) (above : List ℕ) : Type 0 where
  pub stands : AboveIs g read follow p above
  pub least : LeastIs g read follow p low

-- what it takes to hold production q, above p, to p, which has this row
pub record Pairable (g : Flat) (read : Firsts) (follow : List ℕ) (p : ℕ) (row : List ℕ) (q : ℕ) : Type 0 where
  pub reads : Readable g read follow
  pub is : RowIs g read follow p row
  pub rises : p < q
  pub is_prod : q < length g.owners

-- the least token that the rows of p and q share, T where there is none
pub record LeastShared (g : Flat) (read : Firsts) (follow : List ℕ) (p q t : ℕ) : Type 0 where
  pub upto : t ≤ length g.costs
  pub first : FirstBelow (shares_of (denoted g) (marks_in g read) (follow_in g follow) p q) (length g.costs) (ltb t (length g.costs)) t
