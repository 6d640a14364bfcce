use mathlib.Core.Path.{refl}
use Rattle.grammar.proofs.Outcomes.{passed_on}
use Rattle.tables.specs.Sizes.{numbers_wrong}
use Rattle.tables.proofs.Asking.{visit_refused, visit_makes}
use Rattle.engine.specs.Cost.{CostBecame}
use Rattle.costs.proofs.Calling.{cost_visitable}
use borrow.Author.Rules.{rules}
use Rattle.costs.proofs.visit.Goals as goal

pub returns-in_err-numbers_due : goal.returns-in_err-numbers_due
returns-in_err-numbers_due c = rw (passed_on c.from_residual.ensures) (visit_refused numbers_wrong _ _ _ _ c.from-p.ensures _ c.in_err-numbers_due.ensures _ refl _ refl)

pub returns-in_err-refuse_if : goal.returns-in_err-refuse_if
returns-in_err-refuse_if c = rw (passed_on c.from_residual-in_err-refuse_if.ensures) (visit_refused numbers_wrong _ _ _ _ c.from-p.ensures _ c.in_ok-numbers_due.ensures _ c.in_err-refuse_if.ensures _ refl)

pub step-got-requires : goal.step-got-requires
step-got-requires c = record { ready = cost_visitable _ _ _ _ c.from-p.ensures _ _ c.in_ok-refuse_if.ensures refl c.in_ok-numbers_due.ensures; long = search rules }

pub returns : goal.returns
returns c = search (rules, visit_makes numbers_wrong CostBecame _ _ _ _ c.from-p.ensures _ c.in_ok-numbers_due.ensures _ c.in_ok-refuse_if.ensures refl)
