use Rattle.std.proofs.Common.{arith, ◌<◌}
use Rattle.std.proofs.lemmas.List.{length_push}
use Rattle.engine.proofs.Spans.{span_back, span_front}
use Rattle.dearest.proofs.Summing.{sum_start, sum_priced, sum_unknown, sum_part, sum_most, sum_on, sum_end}
use Rattle.dearest.proofs.inner.sum.Goals as goal

pub loop-s-init : goal.loop-s-init
loop-s-init c = sum_start _ _ _ _ _ c.requires

pub symbol_part-x-requires : goal.symbol_part-x-requires
symbol_part-x-requires c =
    let b = span_back _ _ _ c.requires.pricing.fits _ (cc) _ _ c.loop-s.yielded_by _ _ c.next.ensures.steps c.in-Some.field-0 c.in-Some.is in
    sum_priced _ _ _ _ _ c.requires _ _ c.loop-s.invariant _ b

pub returns-then-x-eq0 : goal.returns-then-x-eq0
returns-then-x-eq0 c =
    let b = span_back _ _ _ c.requires.pricing.fits _ (cc) _ _ c.loop-s.yielded_by _ _ c.next.ensures.steps c.in-Some.field-0 c.in-Some.is in
    sum_unknown _ _ _ _ _ c.requires _ _ c.loop-s.invariant _ b _ c.symbol_part-x.ensures c.if-x-eq0.true

pub add_up-n-requires : goal.add_up-n-requires
add_up-n-requires c =
    let known : 0 < c.symbol_part-x.result = omega (arith, c.if-x-eq0.false) in
    let b = span_back _ _ _ c.requires.pricing.fits _ (cc) _ _ c.loop-s.yielded_by _ _ c.next.ensures.steps c.in-Some.field-0 c.in-Some.is in
    (known, c.loop-s.invariant.known, sum_part _ _ _ _ _ c.requires _ _ c.loop-s.invariant _ b _ c.symbol_part-x.ensures, sum_most _ _ _ _ _ c.requires _ _ c.loop-s.invariant)

pub loop-s-preserved : goal.loop-s-preserved
loop-s-preserved c =
    let b = span_back _ _ _ c.requires.pricing.fits _ (cc) _ _ c.loop-s.yielded_by _ _ c.next.ensures.steps c.in-Some.field-0 c.in-Some.is in
    rw (length_push c.loop-s.yielded c.in-Some.field-0) (sum_on _ _ _ _ _ c.requires _ _ c.loop-s.invariant _ b _ c.symbol_part-x.ensures c.if-x-eq0.false _ c.add_up-n.ensures)

pub returns : goal.returns
returns c = sum_end _ _ _ _ _ c.requires _ _ c.loop-s.invariant (span_front _ _ _ c.requires.pricing.fits _ (cc) _ _ c.loop-s.yielded_by _ _ c.next.ensures.steps c.in-None.is) _ c.min.ensures
