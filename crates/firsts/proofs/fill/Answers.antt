use mathlib.Core.Path.{refl}
use Rattle.grammar.proofs.Outcomes.{passed_on}
use Rattle.firsts.proofs.Calling.{lent_refused, fill_begun, fill_does}
use Rattle.firsts.proofs.fill.Goals as goal

pub returns-in_err-due : goal.returns-in_err-due
returns-in_err-due c = rw (passed_on c.from_residual.ensures) (lent_refused _ _ _ _ c.in_err-due.ensures _ refl)

pub settle-requires : goal.settle-requires
settle-requires c = fill_begun _ c.args.first.now c.args.empty.now _ c.in_ok-due.ensures refl _ _ c.clear.ensures c.clear-2.ensures

pub returns : goal.returns
returns c = fill_does _ c.args.first.now c.args.empty.now _ c.in_ok-due.ensures refl _ _ c.clear.ensures c.clear-2.ensures _ _ c.settle.ensures
