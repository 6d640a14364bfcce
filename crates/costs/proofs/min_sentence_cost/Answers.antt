use mathlib.Core.Path.{refl}
use Rattle.grammar.proofs.Outcomes.{passed_on}
use Rattle.costs.proofs.Asking.{query_refused, query_cost, query_in, query_due_law, query_is}
use Rattle.costs.proofs.min_sentence_cost.Goals as goal

pub returns-in_err-numbers_due : goal.returns-in_err-numbers_due
returns-in_err-numbers_due c = rw (passed_on c.from_residual.ensures) (query_refused _ _ _ _ c.in_err-numbers_due.ensures _ refl _ refl)

pub returns-in_err-refuse_if : goal.returns-in_err-refuse_if
returns-in_err-refuse_if c = rw (passed_on c.from_residual-in_err-refuse_if.ensures) (query_refused _ _ _ _ c.in_ok-numbers_due.ensures _ c.in_err-refuse_if.ensures _ refl)

pub cost_fill-requires : goal.cost_fill-requires
cost_fill-requires c = query_cost _ _ _ _ c.in_ok-numbers_due.ensures _ c.in_ok-refuse_if.ensures refl

pub entry_at-least-requires : goal.entry_at-least-requires
entry_at-least-requires c = query_in _ c.args.cost.now _ _ c.in_ok-numbers_due.ensures _ c.in_ok-refuse_if.ensures refl _ c.from.ensures _ c.cost_fill.ensures

pub returns-in_err-entry_due : goal.returns-in_err-entry_due
returns-in_err-entry_due c = rw (passed_on c.from_residual-in_err-entry_due.ensures) (query_due_law _ _ _ _ c.in_ok-numbers_due.ensures _ c.in_ok-refuse_if.ensures refl _ c.from.ensures _ c.cost_fill.ensures _ c.entry_at-least.ensures _ c.in_err-entry_due.ensures)

pub returns : goal.returns
returns c = query_is _ _ _ _ c.in_ok-numbers_due.ensures _ c.in_ok-refuse_if.ensures refl _ c.from.ensures _ c.cost_fill.ensures _ c.entry_at-least.ensures c.in_ok-entry_due.ensures
