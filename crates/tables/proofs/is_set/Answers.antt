use mathlib.Core.Path.{refl}
use Rattle.grammar.proofs.Outcomes.{passed_on}
use Rattle.tables.proofs.Asking.{set_refused, set_few, set_place, set_answers}
use Rattle.tables.proofs.is_set.Goals as goal

pub returns-in_err-table_due : goal.returns-in_err-table_due
returns-in_err-table_due c = rw (passed_on c.from_residual.ensures) (set_refused _ c.args.table.now _ _ _ _ _ c.in_err-table_due.ensures refl _ refl refl _ refl)

pub returns-in_err-refuse_if : goal.returns-in_err-refuse_if
returns-in_err-refuse_if c = rw (passed_on c.from_residual-in_err-refuse_if.ensures) (set_refused _ c.args.table.now _ _ _ _ _ c.in_ok-table_due.ensures c.in_err-refuse_if.ensures _ refl refl _ refl)

pub returns-in_err-refuse_if-2 : goal.returns-in_err-refuse_if-2
returns-in_err-refuse_if-2 c = rw (passed_on c.from_residual-in_err-refuse_if-2.ensures) (set_refused _ c.args.table.now _ _ _ _ _ c.in_ok-table_due.ensures c.in_ok-refuse_if.ensures _ c.from.ensures c.in_err-refuse_if-2.ensures _ refl)

pub table_width-width-requires : goal.table_width-width-requires
table_width-width-requires c = set_few _ c.args.table.now _ _ _ _ _ c.in_ok-table_due.ensures c.in_ok-refuse_if.ensures _ c.from.ensures c.in_ok-refuse_if-2.ensures refl

pub is_set-requires : goal.is_set-requires
is_set-requires c = set_place _ c.args.table.now _ _ _ _ _ c.in_ok-table_due.ensures c.in_ok-refuse_if.ensures _ c.from.ensures c.in_ok-refuse_if-2.ensures refl _ _ _ c.table_width-width.ensures c.from-2.ensures c.from-3.ensures

pub returns : goal.returns
returns c = set_answers _ c.args.table.now _ _ _ _ _ c.in_ok-table_due.ensures c.in_ok-refuse_if.ensures _ c.from.ensures c.in_ok-refuse_if-2.ensures refl _ _ _ c.table_width-width.ensures c.from-2.ensures c.from-3.ensures _ c.is_set.ensures
