use Rattle.grammar.proofs.Outcomes.{passed_on}
use Rattle.listings.proofs.Saying.{count_due, count_14, count_16, count_are}
use Rattle.listings.proofs.inner.count_answer.Goals as goal

pub returns-in_err-entry_due : goal.returns-in_err-entry_due
returns-in_err-entry_due c = rw (passed_on c.from_residual.ensures) (count_due _ _ _ _ c.requires _ c.entry_at.ensures _ c.in_err-entry_due.ensures)

pub returns-then-many-gt-COUNT_MANY : goal.returns-then-many-gt-COUNT_MANY
returns-then-many-gt-COUNT_MANY c = count_14 _ _ _ _ c.requires _ c.entry_at.ensures c.in_ok-entry_due.ensures _ c.entry_at-many.ensures c.if-many-gt-COUNT_MANY.true

pub returns-then-many-gt-COUNT_MAX : goal.returns-then-many-gt-COUNT_MAX
returns-then-many-gt-COUNT_MAX c = count_16 _ _ _ _ c.requires _ c.entry_at.ensures c.in_ok-entry_due.ensures _ c.entry_at-many.ensures c.if-many-gt-COUNT_MANY.false c.if-many-gt-COUNT_MAX.true

pub returns : goal.returns
returns c = count_are _ _ _ _ c.requires _ c.entry_at.ensures c.in_ok-entry_due.ensures _ c.entry_at-many.ensures c.if-many-gt-COUNT_MANY.false c.if-many-gt-COUNT_MAX.false
