-- What the entry of a call finds from the lengths of the lent tables: 1 to 6, then 7 for the first of them.
use Rattle.std.specs.Prelude.{Bool, List, ◌≡◌, ℕ, length}
use Rattle.grammar.specs.Flat.{Flat}
use Rattle.grammar.specs.Outcome.{Outcome, answers, unless}
use Rattle.grammar.specs.Refusals.{unless_due}
use Rattle.tables.specs.Sizes.{table_wrong, row_wrong, numbers_wrong}

-- a test of lent words by their number n
abbrev pub ByLength : (List ℕ → Bool) → ℕ → Bool → Type 0
ByLength test n b = (ws : List ℕ) → length ws ≡ n → b ≡ test ws

-- 1 to 6, then 7 where the test of lent words, n of them, says so
abbrev pub DueBy : (List ℕ → Bool) → Flat → ℕ → Outcome (Unit {0}) → Type 0
DueBy test g n due = (ws : List ℕ) → length ws ≡ n → due ≡ unless_due g (unless (test ws) 7 (answers tt))

-- the words are a mark table, a table by rule, or one of a number a rule
abbrev pub TableDue : Flat → ℕ → Outcome (Unit {0}) → Type 0
TableDue g = DueBy (table_wrong g.rules (length g.costs)) g

abbrev pub RowDue : Flat → ℕ → Outcome (Unit {0}) → Type 0
RowDue g = DueBy (row_wrong g.rules) g

abbrev pub NumbersDue : Flat → ℕ → Outcome (Unit {0}) → Type 0
NumbersDue g = DueBy (numbers_wrong g.rules) g
