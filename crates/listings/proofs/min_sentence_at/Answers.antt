use mathlib.Core.Path.{refl}
use Rattle.grammar.proofs.Outcomes.{passed_on}
use Rattle.listings.proofs.Asking.{ask_number_refused, ask_work, ask_number, ask_numbered}
use Rattle.listings.proofs.min_sentence_at.Goals as goal

pub returns-in_err-due : goal.returns-in_err-due
returns-in_err-due c = rw (passed_on c.from_residual.ensures) (ask_number_refused _ _ _ _ _ _ c.from-r.ensures _ c.in_err-due.ensures _ refl _ _)

pub work-requires : goal.work-requires
work-requires c = ask_work _ _ _ _ _ _ c.from-r.ensures _ c.in_ok-due.ensures refl

pub number_answer-requires : goal.number_answer-requires
number_answer-requires c = ask_number _ _ _ _ _ _ c.in_ok-due.ensures refl _ _ _ _ _ c.work.ensures

pub returns : goal.returns
returns c = ask_numbered _ _ _ _ _ _ c.from-r.ensures _ c.in_ok-due.ensures refl _ _ _ _ _ c.work.ensures _ _ _ _ c.number_answer.ensures
