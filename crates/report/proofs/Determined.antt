-- A file's report is one: any two lists of bytes that are its report are equal.
use mathlib.Core.List.{List}
use mathlib.Core.Path.{◌≡◌, refl, sym, ◌∙◌}
use Prim.Native.Nat.{ℕ, ◌≤◌}
use lib.ListN.{length}
use lib.Seq.{take_all}
use Rattle.grammar.specs.Outcome.{Outcome, answers, refused}
use Rattle.blocks.specs.declared.Counts.{Counts}
use Rattle.blocks.specs.Layout.{grammar_of}
use Rattle.blocks.specs.Reading.{read_of}
use Rattle.lines.proofs.Whole.{grammar_report_one}
use Rattle.report.specs.Report.{Reports, Prints}

pub reports_one : (file : List ℕ) {a b : List ℕ} → Reports file a → Reports file b → a ≡ b
reports_one file {a} {b} x y = go (read_of file) refl
  where
    go : (o : Outcome Counts) → read_of file ≡ o → a ≡ b
    go (answers c) e = grammar_report_one (grammar_of file c) (x.whole c e) (y.whole c e)
    go (refused n) e = x.refuses n e ∙ sym (y.refuses n e)

-- and so is what is printed of the bytes that were read, no more than there is room for
pub prints_one : (room : ℕ) (got : List ℕ) → length got ≤ room → {a b : List ℕ} → Prints room got a → Prints room got b → a ≡ b
prints_one room got l x y = let e = take_all room got l in reports_one got (x got e) (y got e)
