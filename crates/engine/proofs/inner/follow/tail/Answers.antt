use mathlib.Core.Bool.{not}
use Rattle.std.proofs.Common.{ap}
use Rattle.std.proofs.lemmas.List.{length_push}
use Rattle.engine.proofs.Spans.{span_back, span_front}
use Rattle.engine.proofs.Tailing.{tail_start, tail_end, tail_token, tail_rows, tail_place, tail_stop, tail_on}
use Rattle.engine.proofs.inner.follow.tail.Goals as goal

pub loop-s-init : goal.loop-s-init
loop-s-init c = tail_start _ _ _ _ _ _ _ _ c.requires

pub returns-then-s-lt32768 : goal.returns-then-s-lt32768
returns-then-s-lt32768 c =
    let b = span_back _ _ _ c.requires.fits _ (cc) _ _ c.loop-s.yielded_by _ _ c.next.ensures.steps c.in-Some.field-0 c.in-Some.is in
    tail_token _ _ _ _ _ _ _ _ c.requires _ _ _ c.loop-s.invariant _ b c.if-s-lt32768.true

pub join-got-requires : goal.join-got-requires
join-got-requires c =
    let b = span_back _ _ _ c.requires.fits _ (cc) _ _ c.loop-s.yielded_by _ _ c.next.ensures.steps c.in-Some.field-0 c.in-Some.is in
    tail_rows _ _ _ _ _ _ _ _ c.requires _ _ _ c.loop-s.invariant _ b c.if-s-lt32768.false _ c.from-r.ensures _ c.table_width-width.ensures

pub is_set-requires : goal.is_set-requires
is_set-requires c =
    let b = span_back _ _ _ c.requires.fits _ (cc) _ _ c.loop-s.yielded_by _ _ c.next.ensures.steps c.in-Some.field-0 c.in-Some.is in
    tail_place _ _ _ _ _ _ _ _ c.requires _ _ _ c.loop-s.invariant _ b c.if-s-lt32768.false _ c.from-r.ensures _ c.row_width-row.ensures

pub returns-then-not-is_set : goal.returns-then-not-is_set
returns-then-not-is_set c =
    let b = span_back _ _ _ c.requires.fits _ (cc) _ _ c.loop-s.yielded_by _ _ c.next.ensures.steps c.in-Some.field-0 c.in-Some.is in
    tail_stop _ _ _ _ _ _ _ _ c.requires _ _ _ c.loop-s.invariant _ b c.if-s-lt32768.false _ c.from-r.ensures _ c.table_width-width.ensures _ _ c.join-got.ensures _ c.row_width-row.ensures _ c.is_set.ensures (ap not c.if-not-is_set.true)

pub loop-s-preserved : goal.loop-s-preserved
loop-s-preserved c =
    let b = span_back _ _ _ c.requires.fits _ (cc) _ _ c.loop-s.yielded_by _ _ c.next.ensures.steps c.in-Some.field-0 c.in-Some.is in
    rw (length_push c.loop-s.yielded c.in-Some.field-0) (tail_on _ _ _ _ _ _ _ _ c.requires _ _ _ c.loop-s.invariant _ b c.if-s-lt32768.false _ c.from-r.ensures _ c.table_width-width.ensures _ _ c.join-got.ensures _ c.row_width-row.ensures _ c.is_set.ensures (ap not c.if-not-is_set.false))

pub returns : goal.returns
returns c = tail_end _ _ _ _ _ _ _ _ c.requires _ _ _ c.loop-s.invariant (span_front _ _ _ c.requires.fits _ (cc) _ _ c.loop-s.yielded_by _ _ c.next.ensures.steps c.in-None.is)
