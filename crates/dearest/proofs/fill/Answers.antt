use mathlib.Core.Path.{refl}
use Rattle.grammar.proofs.Outcomes.{passed_on}
use Rattle.tables.specs.Sizes.{numbers_wrong}
use Rattle.tables.proofs.Asking.{one_refused, one_leaves}
use Rattle.dearest.proofs.Filling.{fillable}
use Rattle.dearest.proofs.fill.Goals as goal

pub returns-in_err-numbers_due : goal.returns-in_err-numbers_due
returns-in_err-numbers_due c = rw (passed_on c.from_residual.ensures) (one_refused numbers_wrong _ _ _ c.in_err-numbers_due.ensures _ refl)

pub dearest_fill-requires : goal.dearest_fill-requires
dearest_fill-requires c = fillable _ _ _ c.in_ok-numbers_due.ensures refl c.args.g.now.bytes

pub returns : goal.returns
returns c = one_leaves numbers_wrong _ _ _ c.in_ok-numbers_due.ensures refl _ c.dearest_fill.ensures
