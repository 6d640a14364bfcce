use mathlib.Core.Path.{refl}
use Rattle.grammar.proofs.Outcomes.{passed_on}
use Rattle.paths.proofs.Calling.{path_refused, path_search, path_does}
use Rattle.paths.proofs.has_path.Goals as goal

pub returns-in_err-check : goal.returns-in_err-check
returns-in_err-check c = rw (passed_on c.from_residual.ensures) (path_refused _ _ _ _ _ _ _ _ _ c.in_err-check.ensures refl _ refl)

pub returns-in_err-refuse_if : goal.returns-in_err-refuse_if
returns-in_err-refuse_if c = rw (passed_on c.from_residual-in_err-refuse_if.ensures) (path_refused _ _ _ _ _ _ _ _ _ c.in_ok-check.ensures c.in_err-refuse_if.ensures _ refl)

pub leads-requires : goal.leads-requires
leads-requires c = path_search _ _ _ _ _ _ _ _ _ c.in_ok-check.ensures c.in_ok-refuse_if.ensures refl _ _ _ refl c.from.ensures c.from-2.ensures

pub returns : goal.returns
returns c = path_does _ _ _ _ _ _ _ _ _ c.in_ok-check.ensures c.in_ok-refuse_if.ensures refl _ _ _ refl c.from.ensures c.from-2.ensures _ _ c.leads.ensures.1
