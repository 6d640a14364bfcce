use mathlib.Core.Path.{refl}
use Rattle.grammar.proofs.Outcomes.{passed_on}
use Rattle.tables.specs.Sizes.{row_wrong}
use Rattle.tables.proofs.Asking.{one_refused, one_leaves}
use Rattle.costs.proofs.Calling.{row_fillable}
use Rattle.costs.proofs.fill_productive.Goals as goal

pub returns-in_err-row_due : goal.returns-in_err-row_due
returns-in_err-row_due c = rw (passed_on c.from_residual.ensures) (one_refused row_wrong _ _ _ c.in_err-row_due.ensures _ refl)

pub productive_fill-requires : goal.productive_fill-requires
productive_fill-requires c = row_fillable _ _ _ c.in_ok-row_due.ensures refl

pub returns : goal.returns
returns c = one_leaves row_wrong _ _ _ c.in_ok-row_due.ensures refl _ c.productive_fill.ensures
