use mathlib.Core.Path.{refl}
use Rattle.grammar.proofs.Outcomes.{passed_on}
use Rattle.grammar.proofs.Callers.{few_rules, few_tokens}
use Rattle.follows.proofs.Calling.{due_grammar, due_7}
use Rattle.follows.proofs.inner.due.Goals as goal

pub returns-in_err-check : goal.returns-in_err-check
returns-in_err-check c = rw (passed_on c.from_residual.ensures) (due_grammar _ _ _ _ _ _ c.in_err-check.ensures)

pub wrong-requires : goal.wrong-requires
wrong-requires c = (few_rules _ _ _ _ _ _ c.in_ok-check.ensures refl _ refl, few_tokens _ _ _ _ _ _ c.in_ok-check.ensures refl)

pub returns : goal.returns
returns c = due_7 _ _ _ _ _ _ c.in_ok-check.ensures _ c.wrong.ensures _ c.refuse_if.ensures
