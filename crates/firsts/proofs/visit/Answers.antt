use mathlib.Core.Path.{refl}
use Rattle.grammar.proofs.Outcomes.{passed_on}
use Rattle.firsts.proofs.Calling.{visit_refused, visit_ready, visit_does}
use Rattle.firsts.proofs.visit.Goals as goal

pub returns-in_err-due : goal.returns-in_err-due
returns-in_err-due c = rw (passed_on c.from_residual.ensures) (visit_refused _ _ _ _ _ c.from-p.ensures _ c.in_err-due.ensures _ refl _ refl)

pub returns-in_err-refuse_if : goal.returns-in_err-refuse_if
returns-in_err-refuse_if c = rw (passed_on c.from_residual-in_err-refuse_if.ensures) (visit_refused _ _ _ _ _ c.from-p.ensures _ c.in_ok-due.ensures _ c.in_err-refuse_if.ensures _ refl)

pub step-requires : goal.step-requires
step-requires c = visit_ready _ _ _ _ _ c.from-p.ensures _ c.in_ok-due.ensures _ c.in_ok-refuse_if.ensures refl (λ i. (c.slice_known-1.given i).fits) (λ i. (c.slice_known-2-1.given i).fits)

pub returns : goal.returns
returns c = visit_does _ _ _ _ _ c.from-p.ensures _ c.in_ok-due.ensures _ c.in_ok-refuse_if.ensures refl _ _ _ c.step.ensures
