use Rattle.grammar.proofs.Outcomes.{passed_on}
use Rattle.tables.proofs.Asking.{due_grammar, due_7}
use Rattle.tables.proofs.inner.numbers_due.Goals as goal

pub returns-in_err-check : goal.returns-in_err-check
returns-in_err-check c = rw (passed_on c.from_residual.ensures) (due_grammar _ _ _ _ c.in_err-check.ensures)

pub returns : goal.returns
returns c = due_7 _ _ _ _ c.in_ok-check.ensures _ _ c.numbers_wrong.ensures c.refuse_if.ensures
