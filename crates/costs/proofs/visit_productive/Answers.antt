use mathlib.Core.Path.{refl}
use Rattle.grammar.proofs.Outcomes.{passed_on}
use Rattle.tables.specs.Sizes.{row_wrong}
use Rattle.tables.proofs.Asking.{visit_refused, visit_makes}
use Rattle.engine.specs.Productive.{ProductiveBecame}
use Rattle.costs.proofs.Calling.{row_visitable}
use borrow.Author.Rules.{rules}
use Rattle.costs.proofs.visit_productive.Goals as goal

pub returns-in_err-row_due : goal.returns-in_err-row_due
returns-in_err-row_due c = rw (passed_on c.from_residual.ensures) (visit_refused row_wrong _ _ _ _ c.from-p.ensures _ c.in_err-row_due.ensures _ refl _ refl)

pub returns-in_err-refuse_if : goal.returns-in_err-refuse_if
returns-in_err-refuse_if c = rw (passed_on c.from_residual-in_err-refuse_if.ensures) (visit_refused row_wrong _ _ _ _ c.from-p.ensures _ c.in_ok-row_due.ensures _ c.in_err-refuse_if.ensures _ refl)

pub step-requires : goal.step-requires
step-requires c = row_visitable _ _ _ _ c.from-p.ensures _ _ c.in_ok-refuse_if.ensures refl c.in_ok-row_due.ensures (λ i. (c.slice_known-1.given i).fits)

pub returns : goal.returns
returns c = search (rules, visit_makes row_wrong ProductiveBecame _ _ _ _ c.from-p.ensures _ c.in_ok-row_due.ensures _ c.in_ok-refuse_if.ensures refl)
