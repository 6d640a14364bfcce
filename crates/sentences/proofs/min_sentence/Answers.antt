use mathlib.Core.Path.{refl}
use Rattle.grammar.proofs.Outcomes.{passed_on}
use Rattle.tables.proofs.Asking.{numbers_not}
use Rattle.sentences.proofs.Asking.{ask_refused, ask_work, ask_finished, ask_says}
use Rattle.sentences.proofs.min_sentence.Goals as goal

pub returns-in_err-numbers_due : goal.returns-in_err-numbers_due
returns-in_err-numbers_due c = rw (passed_on c.from_residual.ensures) (ask_refused _ c.args.rule.0 _ _ _ _ c.in_err-numbers_due.ensures _ (numbers_not _ _ _ refl) refl _ refl _ _ refl)

pub returns-in_err-refuse_if : goal.returns-in_err-refuse_if
returns-in_err-refuse_if c = rw (passed_on c.from_residual-in_err-refuse_if.ensures) (ask_refused _ c.args.rule.0 _ _ _ _ c.in_ok-numbers_due.ensures _ c.numbers_wrong.ensures c.in_err-refuse_if.ensures _ refl _ _ refl)

pub returns-in_err-refuse_if-2 : goal.returns-in_err-refuse_if-2
returns-in_err-refuse_if-2 c = rw (passed_on c.from_residual-in_err-refuse_if-2.ensures) (ask_refused _ c.args.rule.0 _ _ _ _ c.in_ok-numbers_due.ensures _ c.numbers_wrong.ensures c.in_ok-refuse_if.ensures _ c.in_err-refuse_if-2.ensures _ _ refl)

pub work-requires : goal.work-requires
work-requires c = ask_work _ c.args.rule.0 _ _ _ _ c.in_ok-numbers_due.ensures _ c.numbers_wrong.ensures c.in_ok-refuse_if.ensures _ c.in_ok-refuse_if-2.ensures refl _ refl

pub answer-requires : goal.answer-requires
answer-requires c = ask_finished _ c.args.rule.0 c.args.cost.now c.args.lengths.now _ _ c.in_ok-numbers_due.ensures _ c.numbers_wrong.ensures c.in_ok-refuse_if.ensures _ c.in_ok-refuse_if-2.ensures refl _ c.from-r.ensures _ _ _ c.work.ensures

pub returns : goal.returns
returns c = ask_says _ c.args.rule.0 _ _ _ _ c.in_ok-numbers_due.ensures _ c.numbers_wrong.ensures c.in_ok-refuse_if.ensures _ c.in_ok-refuse_if-2.ensures refl _ c.from-r.ensures _ _ _ c.work.ensures _ _ _ c.answer.ensures
