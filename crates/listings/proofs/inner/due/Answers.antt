use mathlib.Core.Path.{refl}
use Rattle.grammar.proofs.Outcomes.{passed_on}
use Rattle.listings.proofs.Asking.{due_grammar, due_7, due_9, due_none}
use Rattle.listings.proofs.inner.due.Goals as goal

pub returns-in_err-check : goal.returns-in_err-check
returns-in_err-check c = rw (passed_on c.from_residual.ensures) (due_grammar _ _ _ _ _ _ c.in_err-check.ensures _ refl)

pub returns-then-cost-n : goal.returns-then-cost-n
returns-then-cost-n c = due_7 _ _ _ _ _ _ c.in_ok-check.ensures refl _ c.from-n.ensures c.if-cost-n.true

pub returns-then-n-rule : goal.returns-then-n-rule
returns-then-n-rule c = due_9 _ _ _ _ _ _ c.in_ok-check.ensures refl _ c.from-n.ensures c.if-cost-n.false c.if-n-rule.true

pub returns : goal.returns
returns c = due_none _ _ _ _ _ _ c.in_ok-check.ensures refl _ c.from-n.ensures c.if-cost-n.false c.if-n-rule.false
