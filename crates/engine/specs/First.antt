-- FIRST and EMPTY as lent words, the marks that they hold, and one production's step on them.
use Rattle.std.specs.Prelude.{List, [], ◌∷◌, ◌≡◌, ℕ, ◌*◌, ◌≤◌, ◌<◌, ◌+◌, Bool, false, true, length}
use Rattle.theory.specs.Visits.{Marks, first_of, nullable, first_visit}
use Rattle.rows.specs.Marks.{mark, Raised}
use Rattle.rows.specs.Tables.{Sized, view, Became, RowBecame}
use Rattle.tables.specs.Sizes.{words}
use Rattle.grammar.specs.Flat.{Flat, at, form, denoted}
use Rattle.grammar.specs.Well.{WellFormed, SymbolFits}
use Rattle.theory.specs.Grammar.{tok, rul, Form}

pub record Lent : Type 0 where
  pub first : List ℕ
  pub empty : List ℕ

abbrev pub lent : (first empty : List ℕ) → Lent
lent first empty = record { first = first; empty = empty }

-- tables of their exact lengths: R rows of (T+31)/32 words, and one row of (R+31)/32
pub record Held (R T : ℕ) (l : Lent) : Type 0 where
  pub first : Sized R (words T) l.first
  pub empty : Sized 1 (words R) l.empty

-- the marks that they hold
unfoldable pub marks_of : (R T : ℕ) → Lent → Marks
marks_of R T l = record { first = view R T (words T) l.first; empty = λ r. view 1 R (words R) l.empty 0 r }

-- tables of their lengths stay so, and their spare bits are as they were
pub record Spared (R T : ℕ) (a b : Lent) : Type 0 where
  pub held : Held R T a → Held R T b
  pub first : (r t : ℕ) → r < R → T ≤ t → t < words T * 32 → mark (words T) b.first r t ≡ mark (words T) a.first r t
  pub empty : (r : ℕ) → R ≤ r → r < words R * 32 → mark (words R) b.empty 0 r ≡ mark (words R) a.empty 0 r

-- what a walk over the symbols from a up to e for rule o asks
pub record Walkable (R T : ℕ) (symbols : List ℕ) (a e o : ℕ) (l : Lent) : Type 0 where
  pub few_rules : R ≤ 512
  pub few_tokens : T ≤ 512
  pub rise : a ≤ e
  pub fits : e ≤ length symbols
  pub owner : o < R
  pub symbol : (k : ℕ) → k < length symbols → SymbolFits R T (at symbols k)
  pub held : Held R T l

-- what it leaves of the words ws: row o raised by the walk; whether a mark is new, and whether it passed the end
pub record Walks (R T : ℕ) (symbols : List ℕ) (a e o : ℕ) (l : Lent) (ws : List ℕ) (new past : Bool) (to : List ℕ) : Type 0 where
  pub raised : Raised T (words T) ws to o (first_of (marks_of R T l) (form symbols a e)) new
  pub passed : past ≡ nullable (marks_of R T l).empty (form symbols a e)

-- what a step asks: a well-formed grammar, one of its productions, tables of their lengths
pub record Ready (g : Flat) (p : ℕ) (l : Lent) : Type 0 where
  pub well : WellFormed g
  pub is_prod : p < length g.owners
  pub held : Held g.rules (length g.costs) l

-- the tables become what the visit makes of their marks, and spare bits are as they were
pub record FirstBecame (g : Flat) (p : ℕ) (l to : Lent) : Type 0 where
  pub first : Became g.rules (length g.costs) (words (length g.costs)) l.first to.first (first_visit (denoted g) p (marks_of g.rules (length g.costs) l)).first
  pub empty : RowBecame g.rules (words g.rules) l.empty to.empty (first_visit (denoted g) p (marks_of g.rules (length g.costs) l)).empty

-- the form is empty or begins with a token
abbrev pub plain : Form → Bool
plain [] = true
plain (tok s ∷ α) = true
plain (rul r ∷ α) = false

-- where production p starts and ends, within the symbols
pub record Stretches (starts symbols : List ℕ) (p : ℕ) : Type 0 where
  pub starts_in : p + 1 < length starts
  pub rise : at starts p ≤ at starts (p + 1)
  pub fits : at starts (p + 1) ≤ length symbols
