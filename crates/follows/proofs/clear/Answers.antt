use mathlib.Core.Path.{refl}
use Rattle.grammar.proofs.Outcomes.{passed_on}
use Rattle.follows.proofs.Calling.{clear_refused, clear_begin, clear_does}
use Rattle.follows.proofs.clear.Goals as goal

pub returns-in_err-table_due : goal.returns-in_err-table_due
returns-in_err-table_due c = rw (passed_on c.from_residual.ensures) (clear_refused _ _ _ c.in_err-table_due.ensures _ refl)

pub begin-requires : goal.begin-requires
begin-requires c = clear_begin _ c.args.follow.now _ c.in_ok-table_due.ensures refl

pub returns : goal.returns
returns c = clear_does _ c.args.follow.now _ c.in_ok-table_due.ensures refl _ c.begin.ensures
