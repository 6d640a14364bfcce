use mathlib.Core.Path.{refl}
use Rattle.grammar.proofs.Outcomes.{passed_on}
use Rattle.engine.proofs.FollowStepping.{step_unfed}
use Rattle.follows.proofs.Calling.{visit_refused, visit_ready, visit_does}
use Rattle.follows.proofs.visit.Goals as goal

pub returns-in_err-due : goal.returns-in_err-due
returns-in_err-due c = rw (passed_on c.from_residual.ensures) (visit_refused _ _ _ _ _ _ c.in_err-due.ensures c.args.mode _ refl _ _ c.from-p.ensures _ refl _ refl)

pub returns-in_err-refuse_if : goal.returns-in_err-refuse_if
returns-in_err-refuse_if c = rw (passed_on c.from_residual-in_err-refuse_if.ensures) (visit_refused _ _ _ _ _ _ c.in_ok-due.ensures c.args.mode _ c.in_err-refuse_if.ensures _ _ c.from-p.ensures _ refl _ refl)

pub returns-in_err-refuse_if-2 : goal.returns-in_err-refuse_if-2
returns-in_err-refuse_if-2 c = rw (passed_on c.from_residual-in_err-refuse_if-2.ensures) (visit_refused _ _ _ _ _ _ c.in_ok-due.ensures c.args.mode _ c.in_ok-refuse_if.ensures _ _ c.from-p.ensures _ c.in_err-refuse_if-2.ensures _ refl)

pub step-requires : goal.step-requires
step-requires c = step_unfed _ _ _ _ (visit_ready _ _ _ _ _ _ c.in_ok-due.ensures c.args.mode _ c.in_ok-refuse_if.ensures _ _ c.from-p.ensures _ c.in_ok-refuse_if-2.ensures refl (λ i. (c.slice_known-1.given i).fits) (λ i. (c.type_inv.first i).fits) (λ i. (c.type_inv.empty i).fits))

pub returns : goal.returns
returns c = visit_does _ _ _ _ _ _ c.in_ok-due.ensures c.args.mode _ c.in_ok-refuse_if.ensures _ _ c.from-p.ensures _ c.in_ok-refuse_if-2.ensures refl _ _ c.step.ensures
