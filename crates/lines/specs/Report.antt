-- The whole report of a grammar.
use Rattle.std.specs.Prelude.{List, [], ◌++◌, ◌≡◌, ℕ, zero, suc}
use Rattle.grammar.specs.Flat.{Flat}
use Rattle.lines.specs.Line.{Entry, line_of, heading_of}
use Rattle.lines.specs.Says.{Says}

-- a line for each rule in order: those of the rules below n
pub data Lines (g : Flat) : ℕ → List ℕ → Type 0 where
  none : Lines g zero []
  more : {n : ℕ} {before lines : List ℕ} (e : Entry) → Lines g n before → Says g n e → lines ≡ before ++ line_of e → Lines g (suc n) lines

-- it prints the fixed heading, then a line for each rule in order
pub record GrammarReport (g : Flat) (bytes : List ℕ) : Type 0 where
  pub lines : List ℕ
  pub each : Lines g g.rules lines
  pub is : bytes ≡ heading_of ++ lines
