use mathlib.Core.Path.{refl}
use Rattle.grammar.proofs.Outcomes.{passed_on}
use Rattle.listings.proofs.Saying.{number_count, number_refused, number_past, number_measure, number_write, number_is, number_long}
use Rattle.listings.proofs.inner.number_answer.Goals as goal

pub count_answer-requires : goal.count_answer-requires
count_answer-requires c = number_count _ _ _ _ _ _ _ c.requires

pub returns-in_err-many : goal.returns-in_err-many
returns-in_err-many c = rw (passed_on c.from_residual.ensures) (number_refused _ _ _ _ _ _ _ c.requires _ c.in_err-many.ensures _ _ _ refl)

pub returns-then-many-k : goal.returns-then-many-k
returns-then-many-k c = number_past _ _ _ _ _ _ _ c.requires _ c.in_ok-many.ensures _ _ refl _ c.if-many-k.true

pub length_rule-long-requires : goal.length_rule-long-requires
length_rule-long-requires c = number_measure _ _ _ _ _ _ _ c.requires _ c.in_ok-many.ensures _ _ refl c.if-many-k.false _ c.from-n.ensures

pub write_rule-requires : goal.write_rule-requires
write_rule-requires c = number_write _ _ _ _ _ _ _ c.requires _ c.in_ok-many.ensures _ _ refl c.if-many-k.false _ c.from-n.ensures _ c.length_rule-long.ensures _ c.if-long-out.true

pub returns-then-long-out : goal.returns-then-long-out
returns-then-long-out c = number_is _ _ _ _ _ _ _ c.requires _ c.in_ok-many.ensures _ _ refl c.if-many-k.false _ c.from-n.ensures _ c.length_rule-long.ensures _ c.if-long-out.true _ _ _ c.write_rule.ensures

pub returns : goal.returns
returns c = number_long _ _ _ _ _ _ _ c.requires _ c.in_ok-many.ensures _ _ refl c.if-many-k.false _ c.from-n.ensures _ c.length_rule-long.ensures _ c.if-long-out.false
