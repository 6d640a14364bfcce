-- PRODUCTIVE as lent words, the marks that they hold, and one production's step on them.
use Rattle.std.specs.Prelude.{Bool, List, [], ◌∷◌, ◌≡◌, ℕ, ◌+◌, ◌≤◌, ◌<◌, ◌*◌, length}
use Rattle.theory.specs.Visits.{Row, all_marked, productive_visit}
use Rattle.grammar.specs.Flat.{at, symbol, Flat, denoted}
use Rattle.rows.specs.Tables.{row_view, Sized, RowBecame}
use Rattle.tables.specs.Sizes.{words}
use Rattle.grammar.specs.Well.{WellFormed, SymbolFits}
use Rattle.theory.specs.Fills.{Settles}
use Rattle.rows.specs.Marks.{mark}

-- PRODUCTIVE: one row of (R+31)/32 words, by rule
abbrev pub row_of : ℕ → List ℕ → Row
row_of R ws = row_view R (words R) ws

-- a symbol is a token, or a rule that is marked
unfoldable pub symbol_marked : (R : ℕ) → List ℕ → ℕ → Bool
symbol_marked R ws s = all_marked (row_of R ws) (symbol s ∷ [])

-- what it takes to look up a symbol's mark
pub record SymbolReady (R : ℕ) (row : List ℕ) (s : ℕ) : Type 0 where
  pub few_rules : R ≤ 512
  pub rule : 32768 ≤ s → s < 32768 + R
  pub long : length row ≡ words R

-- what it takes to look up the marks of the symbols from a up to e
pub record Marking (R T : ℕ) (symbols : List ℕ) (a e : ℕ) (row : List ℕ) : Type 0 where
  pub few_rules : R ≤ 512
  pub rise : a ≤ e
  pub fits : e ≤ length symbols
  pub symbol : (k : ℕ) → k < length symbols → SymbolFits R T (at symbols k)
  pub long : length row ≡ words R

-- what a step of PRODUCTIVE asks: a well-formed grammar, one of its productions, a row of its length
pub record RowReady (g : Flat) (p : ℕ) (row : List ℕ) : Type 0 where
  pub well : WellFormed g
  pub is_prod : p < length g.owners
  pub held : Sized 1 (words g.rules) row

-- PRODUCTIVE: the owner is marked if every rule in the production is; spare bits are as they were
abbrev pub ProductiveBecame : Flat → ℕ → List ℕ → List ℕ → Type 0
ProductiveBecame g p ws to = RowBecame g.rules (words g.rules) ws to (productive_visit (denoted g) p (row_of g.rules ws))

-- a row of its length stays so, and its spare bits are as they were
pub record RowSpared (R : ℕ) (a b : List ℕ) : Type 0 where
  pub held : Sized 1 (words R) a → Sized 1 (words R) b
  pub spare : (r : ℕ) → R ≤ r → r < words R * 32 → mark (words R) b 0 r ≡ mark (words R) a 0 r

-- rounds were made until none would change anything
abbrev pub RowSettled : Flat → List ℕ → List ℕ → Type 0
RowSettled g = Settles (productive_visit (denoted g)) (row_of g.rules) (RowSpared g.rules) (length g.owners)
