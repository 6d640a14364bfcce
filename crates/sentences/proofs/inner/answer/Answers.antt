use Rattle.grammar.proofs.Outcomes.{passed_on}
use Rattle.sentences.proofs.Saying.{answer_due, answer_14, answer_15, answer_ready, answer_is}
use Rattle.sentences.proofs.inner.answer.Goals as goal

pub returns-in_err-entry_due : goal.returns-in_err-entry_due
returns-in_err-entry_due c = rw (passed_on c.from_residual.ensures) (answer_due _ _ _ _ _ _ c.requires _ c.entry_at.ensures _ c.in_err-entry_due.ensures)

pub returns-then-long-gt-LENGTH_LONG : goal.returns-then-long-gt-LENGTH_LONG
returns-then-long-gt-LENGTH_LONG c = answer_14 _ _ _ _ _ _ c.requires _ c.entry_at.ensures c.in_ok-entry_due.ensures _ c.entry_at-long.ensures c.if-long-gt-LENGTH_LONG.true

pub expand_rule-requires : goal.expand_rule-requires
expand_rule-requires c = answer_ready _ _ _ _ _ _ c.requires _ c.entry_at.ensures c.in_ok-entry_due.ensures _ c.entry_at-long.ensures c.if-long-gt-LENGTH_LONG.false c.if-long-out.true _ c.from.ensures

pub returns-then-long-out : goal.returns-then-long-out
returns-then-long-out c = answer_is _ _ _ _ _ _ c.requires _ c.entry_at.ensures c.in_ok-entry_due.ensures _ c.entry_at-long.ensures c.if-long-gt-LENGTH_LONG.false c.if-long-out.true _ c.from.ensures _ _ _ c.expand_rule.ensures

pub returns : goal.returns
returns c = answer_15 _ _ _ _ _ _ c.requires _ c.entry_at.ensures c.in_ok-entry_due.ensures _ c.entry_at-long.ensures c.if-long-gt-LENGTH_LONG.false c.if-long-out.false
