use mathlib.Core.Path.{refl}
use Rattle.grammar.proofs.Outcomes.{passed_on}
use Rattle.listings.proofs.Asking.{ask_count_refused, ask_work, ask_count, ask_counted}
use Rattle.listings.proofs.count_min_sentences.Goals as goal

pub returns-in_err-due : goal.returns-in_err-due
returns-in_err-due c = rw (passed_on c.from_residual.ensures) (ask_count_refused _ _ _ _ _ _ c.from-r.ensures _ c.in_err-due.ensures _ refl)

pub work-requires : goal.work-requires
work-requires c = ask_work _ _ _ _ _ _ c.from-r.ensures _ c.in_ok-due.ensures refl

pub count_answer-requires : goal.count_answer-requires
count_answer-requires c = ask_count _ _ _ _ _ _ c.in_ok-due.ensures refl _ _ _ _ _ c.work.ensures

pub returns : goal.returns
returns c = ask_counted _ _ _ _ _ _ c.from-r.ensures _ c.in_ok-due.ensures refl _ _ _ _ _ c.work.ensures _ c.count_answer.ensures
