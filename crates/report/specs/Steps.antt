-- What the report's steps ask and leave.
use Rattle.grammar.specs.declared.refusal.Refusal.{Refusal}
use Rattle.std.specs.Prelude.{Result, Ok, Err}
use Rattle.std.specs.Prelude.{List, [], ◌≡◌, ℕ, ◌+◌, ◌*◌, ◌≤◌, length, take}
use Rattle.grammar.specs.Flat.{Flat}
use Rattle.grammar.specs.Well.{WellFormed}
use Rattle.tables.specs.Append.{Appended}
use Rattle.tables.specs.Sizes.{words}
use Rattle.engine.specs.First.{lent as firsts}
use Rattle.engine.specs.Follow.{reads, lent}
use Rattle.follows.specs.Calls.{Tables as FollowTables}
use Rattle.lines.specs.Line.{Entry, line_of}
use Rattle.lines.specs.Lent.{Tables}
use Rattle.lines.specs.Says.{Defined, Says}
use Rattle.lines.specs.Report.{Lines}

-- room for the line of any rule
abbrev pub line_room : ℕ
line_room = 3888

-- room for any report: the heading and 512 lines
abbrev pub report_room : ℕ
report_room = 29 + 512 * line_room

-- the line that a call wrote to the front of a buffer; nothing if it was refused
abbrev pub line_in : Result ℕ Refusal → List ℕ → List ℕ
line_in (Ok n) buffer = take n buffer
line_in (Err e) buffer = []

-- the buffer is at least as long as that line
pub record Stands (written : Result ℕ Refusal) (buffer : List ℕ) : Type 0 where
  pub most : (n : ℕ) → written ≡ Ok n → n ≤ length buffer

-- a well-formed grammar, and FOLLOW, FIRST and EMPTY of their exact lengths
pub record SetsFillable (g : Flat) (follow first empty : List ℕ) : Type 0 where
  pub well : WellFormed g
  pub follow_long : length follow ≡ g.rules * words (length g.costs)
  pub first_long : length first ≡ g.rules * words (length g.costs)
  pub empty_long : length empty ≡ words g.rules

-- FOLLOW, FIRST and EMPTY were left, beside a reached row
pub record SetsFull (g : Flat) (follow first empty : List ℕ) : Type 0 where
  pub reached : List ℕ
  pub full : FollowTables g (lent follow (reads (firsts first empty) reached))

-- a well-formed grammar and all its tables of their exact lengths
pub record Fillable (g : Flat) (l : Tables) : Type 0 where
  pub well : WellFormed g
  pub empty_long : length l.empty ≡ words g.rules
  pub first_long : length l.first ≡ g.rules * words (length g.costs)
  pub follow_long : length l.follow ≡ g.rules * words (length g.costs)
  pub cost_long : length l.cost ≡ g.rules

-- a well-formed grammar and its defined tables, from which the lines are written
pub record Ready (g : Flat) (l : Tables) : Type 0 where
  pub well : WellFormed g
  pub defined : Defined g l

-- the line of rule r is appended
pub record LineAdded (g : Flat) (r : ℕ) (out : List ℕ) (from : ℕ) (to : List ℕ) (next : ℕ) : Type 0 where
  pub entry : Entry
  pub says : Says g r entry
  pub short : length (line_of entry) ≤ line_room
  pub made : Appended out from (line_of entry) to next

-- the lines of the rules below n are appended
pub record LinesAdded (g : Flat) (n : ℕ) (out : List ℕ) (from : ℕ) (to : List ℕ) (next : ℕ) : Type 0 where
  pub lines : List ℕ
  pub each : Lines g n lines
  pub short : length lines ≤ n * line_room
  pub made : Appended out from lines to next
