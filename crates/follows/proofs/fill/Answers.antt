use mathlib.Core.Path.{refl}
use Rattle.grammar.proofs.Outcomes.{passed_on}
use Rattle.follows.proofs.Calling.{fill_refused, fill_fillable, fill_does}
use Rattle.follows.proofs.fill.Goals as goal

pub returns-in_err-due : goal.returns-in_err-due
returns-in_err-due c = rw (passed_on c.from_residual.ensures) (fill_refused _ _ _ _ _ _ c.in_err-due.ensures c.args.mode _ refl _ refl)

pub returns-in_err-refuse_if : goal.returns-in_err-refuse_if
returns-in_err-refuse_if c = rw (passed_on c.from_residual-in_err-refuse_if.ensures) (fill_refused _ _ _ _ _ _ c.in_ok-due.ensures c.args.mode _ c.in_err-refuse_if.ensures _ refl)

pub fill-requires : goal.fill-requires
fill-requires c = fill_fillable _ _ _ _ _ _ c.in_ok-due.ensures c.args.mode _ c.in_ok-refuse_if.ensures refl

pub returns : goal.returns
returns c = fill_does _ _ _ _ _ _ c.in_ok-due.ensures c.args.mode _ c.in_ok-refuse_if.ensures refl _ _ _ _ c.fill.ensures
