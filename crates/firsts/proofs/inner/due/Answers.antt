use Rattle.grammar.proofs.Outcomes.{passed_on}
use Rattle.firsts.proofs.Calling.{due_lent, due_stopped}
use Rattle.firsts.proofs.inner.due.Goals as goal

pub returns-in_err-table_due : goal.returns-in_err-table_due
returns-in_err-table_due c = rw (passed_on c.from_residual.ensures) (due_stopped _ _ _ _ c.in_err-table_due.ensures)

pub returns : goal.returns
returns c = due_lent _ _ _ _ c.in_ok-table_due.ensures _ _ c.row_wrong.ensures c.refuse_if.ensures
