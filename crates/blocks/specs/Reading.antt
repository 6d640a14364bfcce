-- The file reader: its refusals in order, what it fills, and what it answers.
use Rattle.std.specs.Prelude.{Result, List, ◌++◌, ◌≡◌, ℕ, length, drop}
use Rattle.grammar.specs.Flat.{Flat}
use Rattle.grammar.specs.Outcome.{Outcome, answers, unless}
use Rattle.grammar.specs.Refusals.{unless_due}
use Rattle.tables.specs.Call.{Call}
use Rattle.blocks.specs.declared.Counts.{Counts}
use Rattle.grammar.specs.Lent.{outcome_of}
use Rattle.grammar.specs.declared.refusal.Refusal.{Refusal}
use Rattle.blocks.specs.Layout.{counts_of, grammar_of}
use Rattle.blocks.specs.Refusals.{lists_wrong, file_wrong, checks_differ, numbers_differ, counts_out, blocks_wrong, token_free}

-- the four lent lists
pub record Lists : Type 0 where
  pub owners : List ℕ
  pub starts : List ℕ
  pub symbols : List ℕ
  pub costs : List ℕ

abbrev pub lists : (owners starts symbols costs : List ℕ) → Lists
lists owners starts symbols costs = record { owners = owners; starts = starts; symbols = symbols; costs = costs }

-- it fills the front of each and keeps the rest
unfoldable pub over : (front list : List ℕ) → List ℕ
over front list = front ++ drop (length front) list

abbrev pub filled : Flat → Lists → Lists
filled g m = lists (over g.owners m.owners) (over g.starts m.starts) (over g.symbols m.symbols) (over g.costs m.costs)

-- the file reader's order is 20, 21, 22, 1, 23, 25; where none of them is due, it goes on
abbrev pub unless_file : {A : Type 0} → List ℕ → Outcome A → Outcome A
unless_file file x =
    unless (file_wrong (length file)) 20
    (unless (checks_differ file) 21
    (unless (numbers_differ file) 22
    (unless (counts_out (counts_of file)) 1
    (unless (blocks_wrong file (counts_of file)) 23
    (unless (token_free (counts_of file).version (grammar_of file (counts_of file)).costs) 25 x)))))

-- a file's own refusals
abbrev pub file_due : List ℕ → Outcome (Unit {0})
file_due file = unless_file file (answers tt)

-- lists not of the limits' lengths give 7 before all others
abbrev pub read_due : List ℕ → Lists → Outcome (Unit {0})
read_due file m = unless (lists_wrong (length m.owners) (length m.starts) (length m.symbols) (length m.costs)) 7 (file_due file)

-- then 2 to 6: what the reader says of a file, lent lists of the limits' lengths
abbrev pub read_of : List ℕ → Outcome Counts
read_of file = unless_file file (unless_due (grammar_of file (counts_of file)) (answers (counts_of file)))

-- then it fills the lists, also when 2 to 6 follow, and answers the lowest of these due or the version with R, T, P and N
pub record Reads (file : List ℕ) (before : Lists) (said : Outcome Counts) (after : Lists) : Type 0 where
  pub answer : said ≡ unless_due (grammar_of file (counts_of file)) (answers (counts_of file))
  pub left : after ≡ filled (grammar_of file (counts_of file)) before

-- the promise
abbrev pub Read : List ℕ → Lists → Result Counts Refusal → Lists → Type 0
Read file before r after = Call (read_due file before) (Reads file before) before (outcome_of r) after
