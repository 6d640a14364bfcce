use mathlib.Core.Path.{refl}
use Rattle.grammar.proofs.Outcomes.{passed_on}
use Rattle.grammar.proofs.Produced.{length_refused, length_past, length_found, start_in, end_in, start_upto}
use Rattle.grammar.proofs.production_len.Goals as goal

pub returns-in_err-check : goal.returns-in_err-check
returns-in_err-check c = rw (passed_on c.from_residual.ensures) (length_refused _ _ c.in_err-check.ensures _ _ refl)

pub returns-then-g-p : goal.returns-then-g-p
returns-then-g-p c = length_past _ _ c.in_ok-check.ensures refl _ _ c.from-p.ensures c.if-g-p.true

pub start_at-a-requires : goal.start_at-a-requires
start_at-a-requires c = start_in _ _ _ _ _ _ c.in_ok-check.ensures refl _ c.if-g-p.false

pub start_at-e-requires : goal.start_at-e-requires
start_at-e-requires c = end_in _ _ _ _ _ _ c.in_ok-check.ensures refl _ c.if-g-p.false

pub overflow_sub-result : goal.overflow_sub-result
overflow_sub-result c = start_upto _ _ _ _ _ _ c.in_ok-check.ensures refl _ c.if-g-p.false _ _ c.start_at-a.ensures.0 c.start_at-e.ensures.0

pub returns : goal.returns
returns c = length_found _ _ c.in_ok-check.ensures refl _ _ c.from-p.ensures c.if-g-p.false _ _ c.start_at-a.ensures.0 c.start_at-e.ensures.0
