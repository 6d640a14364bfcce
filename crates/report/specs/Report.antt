-- What the report program prints.
use Rattle.std.specs.Prelude.{List, ◌≡◌, ℕ, take}
use Rattle.grammar.specs.Outcome.{answers, refused}
use Rattle.blocks.specs.declared.Counts.{Counts}
use Rattle.blocks.specs.Layout.{grammar_of}
use Rattle.blocks.specs.Reading.{read_of}
use Rattle.lines.specs.Line.{refused_of}
use Rattle.lines.specs.Report.{GrammarReport}

-- it prints the heading and the lines of the file's grammar; for a refused file it prints only `refused ` and the number
pub record Reports (file bytes : List ℕ) : Type 0 where
  pub whole : (c : Counts) → read_of file ≡ answers c → GrammarReport (grammar_of file c) bytes
  pub refuses : (n : ℕ) → read_of file ≡ refused n → bytes ≡ refused_of n

-- the report program reads such a file on standard input: whatever the file is of which it got the first bytes, as many as it had room for, or all if there are fewer, these bytes are its report
abbrev pub Prints : (room : ℕ) (got bytes : List ℕ) → Type 0
Prints room got bytes = (file : List ℕ) → take room file ≡ got → Reports file bytes
