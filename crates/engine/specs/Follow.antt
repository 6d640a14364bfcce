-- FOLLOW as lent words, beside what its visits read, the marks that it holds, and one production's step, right to left.
use Rattle.std.specs.Prelude.{List, ◌∷◌, [], ◌≡◌, ℕ, ◌*◌, ◌≤◌, ◌<◌, Bool, true, false, cond, ◌&&◌, ◌||◌, length, replicate, eqb}
use Rattle.theory.specs.Visits.{Table, Row, Marks, nullable, first_of, follow_back, follow_visit}
use Rattle.rows.specs.Marks.{mark, Fresh, Rows}
use Rattle.rows.specs.Tables.{Sized, view, row_view, Became}
use Rattle.tables.specs.Sizes.{words}
use Rattle.engine.specs.First.{Lent as Firsts, Held, marks_of, Walkable as Forth, Ready as FirstReady}
use Rattle.theory.specs.Fills.{Settles}
use Rattle.theory.specs.Grammar.{rul, Form, tok}
use Rattle.grammar.specs.Flat.{Flat, symbol, denoted, at}
use Rattle.grammar.specs.Well.{SymbolFits}

-- what the visits of FOLLOW read: FIRST and EMPTY, and the reached row
pub record Reads : Type 0 where
  pub firsts : Firsts
  pub reached : List ℕ

abbrev pub reads : (firsts : Firsts) (reached : List ℕ) → Reads
reads firsts reached = record { firsts = firsts; reached = reached }

-- FOLLOW, and what its visits read
pub record Lent : Type 0 where
  pub follow : List ℕ
  pub read : Reads

-- the two together
abbrev pub lent : (follow : List ℕ) (read : Reads) → Lent
lent follow read = record { follow = follow; read = read }

-- the rules that the reached row marks
abbrev pub reached_of : ℕ → List ℕ → Row
reached_of R reached = row_view R (words R) reached

-- the marks that FOLLOW holds
abbrev pub table_of : (R T : ℕ) → List ℕ → Table
table_of R T follow = view R T (words T) follow

-- a table of its length, R rows of (T+31)/32 words, stays so, and its spare bits are as they were
pub record Spared (R T : ℕ) (a b : List ℕ) : Type 0 where
  pub held : Sized R (words T) a → Sized R (words T) b
  pub spare : (r t : ℕ) → r < R → T ≤ t → t < words T * 32 → mark (words T) b r t ≡ mark (words T) a r t

-- a mark of some row that `to` has and `ws` has not
pub record New (R T W : ℕ) (ws to : List ℕ) : Type 0 where
  pub row : ℕ
  pub is_row : row < R
  pub fresh : Fresh T W ws to row

-- `ws` grew: its marks are those of f, none is lost, its spare bits are as they were, and `new` tells whether a mark is new
pub record Grown (R T W : ℕ) (ws to : List ℕ) (f : Table) (new : Bool) : Type 0 where
  pub became : Became R T W ws to f
  pub under : (r t : ℕ) → r < R → t < T → mark W ws r t ≡ true → f r t ≡ true
  pub told : new ≡ true → New R T W ws to
  pub still : new ≡ false → to ≡ ws

-- the row carried along holds what the symbols v give a rule before them, and `null` tells whether all of v vanishes
pub record Carries (T : ℕ) (m : Marks) (v : Form) (ahead : List ℕ) (null : Bool) : Type 0 where
  pub sized : Sized 1 (words T) ahead
  pub marks : (t : ℕ) → t < T → mark (words T) ahead 0 t ≡ first_of m v t
  pub vanishes : null ≡ nullable m.empty v

-- what joining to rule r's row asks: the owner's row and the row carried along stand in their words
pub record Puts (T o r : ℕ) (ahead follow : List ℕ) : Type 0 where
  pub few_tokens : T ≤ 512
  pub own : Rows T (words T) follow o follow r
  pub carried : Rows T (words T) ahead 0 follow r

-- a row is as it was if it is to be kept, else zero
pub record Kept (row : List ℕ) (kept : Bool) (to : List ℕ) : Type 0 where
  pub left : to ≡ cond kept row (replicate (length row) 0)

-- what carrying the row past rule r asks
pub record Passable (R T r : ℕ) (read : Firsts) (ahead : List ℕ) : Type 0 where
  pub few_rules : R ≤ 512
  pub few_tokens : T ≤ 512
  pub rule : r < R
  pub held : Held R T read
  pub carried : Sized 1 (words T) ahead

-- the row after that: for all symbols v that it was carried over, it is carried over rule r too
pub record Passes (T : ℕ) (m : Marks) (r : ℕ) (ahead : List ℕ) (vanishes : Bool) (to : List ℕ) : Type 0 where
  pub long : length to ≡ length ahead
  pub carries : (v : Form) (null : Bool) → Carries T m v ahead null → Carries T m (rul r ∷ v) to (vanishes && null)

-- what the turn of symbol s, in a production of o, asks
pub record Turnable (R T o s : ℕ) (read : Firsts) (ahead follow : List ℕ) : Type 0 where
  pub few_rules : R ≤ 512
  pub few_tokens : T ≤ 512
  pub owner : o < R
  pub fits : SymbolFits R T s
  pub held : Held R T read
  pub carried : Sized 1 (words T) ahead
  pub follows : Sized R (words T) follow

-- what it leaves: for all symbols v after it, the row carried over them and FOLLOW as they left it go on to s
pub record Turns (R T o : ℕ) (m : Marks) (s : ℕ) (null : Bool) (ahead follow : List ℕ) (new null' : Bool) (ahead' follow' : List ℕ) : Type 0 where
  pub ahead_long : length ahead' ≡ length ahead
  pub follow_long : length follow' ≡ length follow
  pub carries : (v : Form) → Carries T m v ahead null → Carries T m (symbol s ∷ v) ahead' null'
  pub grown : (v : Form) (ws : List ℕ) (b : Bool) → Carries T m v ahead null → Grown R T (words T) ws follow (follow_back m o v (table_of R T ws)) b
      → Grown R T (words T) ws follow' (follow_back m o (symbol s ∷ v) (table_of R T ws)) (b || new)

-- what a walk back over the symbols from a up to e asks: what FIRST's walk does, FOLLOW of its length, an empty row to carry
pub record Walkable (R T : ℕ) (symbols : List ℕ) (a e o : ℕ) (read : Firsts) (ahead follow : List ℕ) : Type 0 where
  pub forth : Forth R T symbols a e o read
  pub carried : ahead ≡ replicate (words T) 0
  pub follows : Sized R (words T) follow

-- a visit of a production over what is read
abbrev pub visit_of : Flat → Reads → ℕ → Table → Table
visit_of g read = follow_visit (denoted g) (marks_of g.rules (length g.costs) read.firsts) (reached_of g.rules read.reached)

-- what a step asks: a well-formed grammar, one of its productions, tables of their lengths
pub record Ready (g : Flat) (p : ℕ) (read : Reads) (follow : List ℕ) : Type 0 where
  pub first : FirstReady g p read.firsts
  pub reached : length read.reached ≡ words g.rules
  pub follows : Sized g.rules (words (length g.costs)) follow

-- FOLLOW becomes what the visit makes of the marks held, and spare bits are as they were
abbrev pub FollowBecame : Flat → Reads → ℕ → (follow to : List ℕ) → Type 0
FollowBecame g read p follow to =
    Became g.rules (length g.costs) (words (length g.costs)) follow to
    (visit_of g read p (table_of g.rules (length g.costs) follow))

-- rounds were made until none would change anything
abbrev pub Settled : Flat → Reads → List ℕ → List ℕ → Type 0
Settled g read =
    Settles (visit_of g read) (table_of g.rules (length g.costs)) (Spared g.rules (length g.costs))
    (length g.owners)

-- each rule symbol of v holds what the symbols after it give it
abbrev pub Fed : Marks → Form → Table → Type 0
Fed m [] f = Unit {0}
Fed m (tok s ∷ v) f = Fed m v f
Fed m (rul A ∷ v) f = ((t : ℕ) → first_of m v t ≡ true → f A t ≡ true) × Fed m v f

-- the owner's marks joined to the rules from which on all vanishes, right to left
abbrev pub tail_back : Row → ℕ → Form → Table → Table
tail_back e o [] f = f
tail_back e o (tok s ∷ v) f = tail_back e o v f
tail_back e o (rul A ∷ v) f = λ r t. tail_back e o v f r t || (eqb r A && (nullable e v && tail_back e o v f o t))

-- what joining at the end of the symbols from a up to e asks
pub record Tailed (R T : ℕ) (symbols : List ℕ) (a e o : ℕ) (empty follow : List ℕ) : Type 0 where
  pub few_rules : R ≤ 512
  pub few_tokens : T ≤ 512
  pub rise : a ≤ e
  pub fits : e ≤ length symbols
  pub owner : o < R
  pub symbol : (k : ℕ) → k < length symbols → SymbolFits R T (at symbols k)
  pub empties : Sized 1 (words R) empty
  pub follows : Sized R (words T) follow

-- production p is fed, if its owner is reached
abbrev pub ProdFed : Flat → Reads → List ℕ → ℕ → Type 0
ProdFed g read follow p =
    reached_of g.rules read.reached ((denoted g).owner p) ≡ true
    → Fed (marks_of g.rules (length g.costs) read.firsts) ((denoted g).body p) (table_of g.rules (length g.costs) follow)

-- what a step asks that may go by what is fed
pub record StepReady (g : Flat) (p : ℕ) (fed : Bool) (read : Reads) (follow : List ℕ) : Type 0 where
  pub ready : Ready g p read follow
  pub feeds : fed ≡ true → ProdFed g read follow p

-- what FOLLOW's visits read is of its exact lengths
pub record ReadHeld (g : Flat) (read : Reads) : Type 0 where
  pub firsts : Held g.rules (length g.costs) read.firsts
  pub reached : length read.reached ≡ words g.rules
