use mathlib.Core.Path.{refl}
use Rattle.grammar.proofs.Outcomes.{passed_on}
use Rattle.tables.proofs.Asking.{rule_refused, rule_place, rule_answers}
use Rattle.tables.proofs.is_rule_set.Goals as goal

pub returns-in_err-row_due : goal.returns-in_err-row_due
returns-in_err-row_due c = rw (passed_on c.from_residual.ensures) (rule_refused _ c.args.row.now _ _ _ c.in_err-row_due.ensures refl _ refl)

pub returns-in_err-refuse_if : goal.returns-in_err-refuse_if
returns-in_err-refuse_if c = rw (passed_on c.from_residual-in_err-refuse_if.ensures) (rule_refused _ c.args.row.now _ _ _ c.in_ok-row_due.ensures c.in_err-refuse_if.ensures _ refl)

pub is_set-requires : goal.is_set-requires
is_set-requires c = rule_place _ c.args.row.now _ _ _ c.in_ok-row_due.ensures c.in_ok-refuse_if.ensures refl _ _ _ refl c.row_width-width.ensures c.from.ensures

pub returns : goal.returns
returns c = rule_answers _ c.args.row.now _ _ _ c.in_ok-row_due.ensures c.in_ok-refuse_if.ensures refl _ _ _ refl c.row_width-width.ensures c.from.ensures _ c.is_set.ensures
