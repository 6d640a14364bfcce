use Rattle.theory.proofs.Fills.{turn_down, turn_up}
use borrow.Author.Rules.{rules}
use Rattle.tables.proofs.inner.turn_at.Goals as goal

pub returns-then-down : goal.returns-then-down
returns-then-down c = search (rules, turn_down)

pub returns : goal.returns
returns c = search (rules, turn_up)
