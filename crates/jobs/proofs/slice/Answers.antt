use mathlib.Core.Path.{refl}
use borrow.Author.Rules.{rules}
use Rattle.grammar.proofs.Callers.{few_rules, few_tokens}
use Rattle.grammar.proofs.Outcomes.{passed_on}
use Rattle.tables.proofs.Calls.{refuses}
use Rattle.jobs.proofs.Calling.{slice_kind, slice_17, slice_7, slice_workable, slice_does}
use Rattle.jobs.proofs.slice.Goals as goal

pub returns-in_err-check : goal.returns-in_err-check
returns-in_err-check c = rw (passed_on c.from_residual.ensures) (refuses _ _ _ c.in_err-check.ensures _ refl)

pub returns-in_err-kind : goal.returns-in_err-kind
returns-in_err-kind c = rw (passed_on c.from_residual-in_err-kind.ensures) (slice_kind _ _ _ _ c.in_ok-check.ensures _ c.in_err-kind.ensures)

pub returns-in_err-refuse_if : goal.returns-in_err-refuse_if
returns-in_err-refuse_if c = rw (passed_on c.from_residual-in_err-refuse_if.ensures) (slice_17 _ _ _ _ c.in_ok-check.ensures _ c.in_ok-kind.ensures _ c.from.ensures _ c.in_err-refuse_if.ensures)

pub wrong-requires : goal.wrong-requires
wrong-requires c = (few_rules _ _ _ _ _ _ c.in_ok-check.ensures refl _ refl, few_tokens _ _ _ _ _ _ c.in_ok-check.ensures refl)

pub returns-in_err-refuse_if-2 : goal.returns-in_err-refuse_if-2
returns-in_err-refuse_if-2 c = rw (passed_on c.from_residual-in_err-refuse_if-2.ensures) (slice_7 _ _ _ _ c.in_ok-check.ensures _ c.in_ok-kind.ensures _ c.from.ensures c.in_ok-refuse_if.ensures _ c.wrong.ensures _ c.in_err-refuse_if-2.ensures)

pub work-made-requires : goal.work-made-requires
work-made-requires c = slice_workable _ c.args.n c.args.job.now _ c.in_ok-check.ensures _ c.in_ok-kind.ensures _ c.from.ensures c.in_ok-refuse_if.ensures _ c.wrong.ensures c.in_ok-refuse_if-2.ensures (record { first = λ i. search rules; empty = λ i. search rules; follow = λ i. search rules; productive = λ i. search rules })

pub returns : goal.returns
returns c = slice_does _ _ _ _ c.in_ok-check.ensures _ c.in_ok-kind.ensures _ c.from.ensures c.in_ok-refuse_if.ensures _ c.wrong.ensures c.in_ok-refuse_if-2.ensures _ _ _ c.work-made.ensures
