use mathlib.Core.Path.{refl}
use Rattle.grammar.proofs.Outcomes.{passed_on}
use Rattle.firsts.proofs.Calling.{lent_refused, clear_does}
use Rattle.firsts.proofs.clear.Goals as goal

pub returns-in_err-due : goal.returns-in_err-due
returns-in_err-due c = rw (passed_on c.from_residual.ensures) (lent_refused _ _ _ _ c.in_err-due.ensures _ refl)

pub returns : goal.returns
returns c = clear_does _ c.args.first.now c.args.empty.now _ c.in_ok-due.ensures refl _ _ c.clear.ensures c.clear-2.ensures
