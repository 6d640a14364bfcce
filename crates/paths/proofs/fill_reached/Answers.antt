use mathlib.Core.Path.{refl}
use Rattle.grammar.proofs.Outcomes.{passed_on}
use Rattle.tables.specs.Sizes.{row_wrong}
use Rattle.tables.proofs.Asking.{one_refused, one_leaves}
use Rattle.paths.proofs.Reaching.{reached_fillable}
use Rattle.paths.proofs.fill_reached.Goals as goal

pub returns-in_err-row_due : goal.returns-in_err-row_due
returns-in_err-row_due c = rw (passed_on c.from_residual.ensures) (one_refused row_wrong _ _ _ c.in_err-row_due.ensures _ refl)

pub reach-requires : goal.reach-requires
reach-requires c = reached_fillable _ _ _ c.in_ok-row_due.ensures refl

pub returns : goal.returns
returns c = one_leaves row_wrong _ _ _ c.in_ok-row_due.ensures refl _ c.reach.ensures
