use mathlib.Core.Path.{refl}
use Rattle.grammar.proofs.Produced.{start_refused, start_past, place_found, stretch_found, start_in, end_in, start_upto, end_upto}
use Rattle.grammar.proofs.production.Goals as goal

pub returns-in_default : goal.returns-in_default
returns-in_default c = start_refused _ _ c.in_default.ensures _ _ refl c.empty_start.ensures

pub returns-then-g-p : goal.returns-then-g-p
returns-then-g-p c = start_past _ _ c.in-Ok.ensures refl _ _ c.from-p.ensures c.if-g-p.true c.empty_start-then-g-p.ensures

pub start_at-a-requires : goal.start_at-a-requires
start_at-a-requires c = start_in _ _ _ _ _ _ c.in-Ok.ensures refl _ c.if-g-p.false

pub start_at-e-requires : goal.start_at-e-requires
start_at-e-requires c = end_in _ _ _ _ _ _ c.in-Ok.ensures refl _ c.if-g-p.false

pub slice_bounds-result-count : goal.slice_bounds-result-count
slice_bounds-result-count c = start_upto _ _ _ _ _ _ c.in-Ok.ensures refl _ c.if-g-p.false _ _ c.start_at-a.ensures.0 c.start_at-e.ensures.0

pub slice_bounds-result-start : goal.slice_bounds-result-start
slice_bounds-result-start c = start_upto _ _ _ _ _ _ c.in-Ok.ensures refl _ c.if-g-p.false _ _ c.start_at-a.ensures.0 c.start_at-e.ensures.0

pub slice_bounds-result-end : goal.slice_bounds-result-end
slice_bounds-result-end c = end_upto _ _ _ _ _ _ c.in-Ok.ensures refl _ c.if-g-p.false _ _ c.start_at-a.ensures.0 c.start_at-e.ensures.0

pub returns : goal.returns
returns c = record {
  lies = place_found _ _ _ _ _ _ c.in-Ok.ensures refl _ c.if-g-p.false _ _ c.start_at-a.ensures.0 c.start_at-e.ensures.0 _ c.from-p.ensures _;
  is = stretch_found _ _ _ _ _ _ c.in-Ok.ensures refl _ c.if-g-p.false _ _ c.start_at-a.ensures.0 c.start_at-e.ensures.0 _ c.from-p.ensures;
}
