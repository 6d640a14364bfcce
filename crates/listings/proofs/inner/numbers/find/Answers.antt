use Rattle.listings.proofs.Finding.{find_place, find_start, find_start_at, find_next_at, find_link, find_places, find_turnable, find_found, find_from, find_less, find_on}
use native.Mathlib.Omega.{arith}
use Rattle.listings.proofs.inner.numbers.find.Goals as goal

pub offset_bounds-choice-r : goal.offset_bounds-choice-r
offset_bounds-choice-r c = omega (arith, find_place _ _ _ _ _ _ _ _ c.requires.numbered)

pub bounds-choice-r : goal.bounds-choice-r
bounds-choice-r c = find_place _ _ _ _ _ _ _ _ c.requires.numbered

pub loop-rest-init : goal.loop-rest-init
loop-rest-init c = find_start _ _ _ _ _ _ _ _ c.requires.numbered _ c.requires.begun _ c.from-p.ensures

pub start_at-a-requires : goal.start_at-a-requires
start_at-a-requires c = find_start_at _ _ _ _ _ _ _ _ c.requires.numbered _ _ _ c.loop-rest.invariant

pub start_at-e-requires : goal.start_at-e-requires
start_at-e-requires c = find_next_at _ _ _ _ _ _ _ _ c.requires.numbered _ _ _ c.loop-rest.invariant

pub places-m-requires : goal.places-m-requires
places-m-requires c = find_places _ _ _ _ _ _ _ _ c.requires.numbered _ _ _ c.loop-rest.invariant _ _ c.start_at-a.ensures.0 c.start_at-e.ensures.0

pub show-requires : goal.show-requires
show-requires c = find_turnable _ _ _ _ _ _ _ _ c.requires.numbered _ _ _ c.loop-rest.invariant _ _ c.start_at-a.ensures.0 c.start_at-e.ensures.0 _ _ c.places-m.ensures

pub returns-in_default : goal.returns-in_default
returns-in_default c = find_found _ _ _ _ _ _ _ _ c.requires.numbered _ _ _ c.loop-rest.invariant _ _ c.start_at-a.ensures.0 c.start_at-e.ensures.0 _ _ c.places-m.ensures _ _ c.show.ensures c.in_default.is

pub offset_bounds-next-p : goal.offset_bounds-next-p
offset_bounds-next-p c = omega (arith, find_link _ _ _ _ _ _ _ _ c.requires.numbered _ _ _ c.loop-rest.invariant)

pub bounds-next-p : goal.bounds-next-p
bounds-next-p c = find_link _ _ _ _ _ _ _ _ c.requires.numbered _ _ _ c.loop-rest.invariant

pub cheapest_from-p-requires : goal.cheapest_from-p-requires
cheapest_from-p-requires c = find_from _ _ _ _ _ _ _ _ c.requires.numbered _ _ _ c.loop-rest.invariant _ _ c.start_at-a.ensures.0 c.start_at-e.ensures.0 _ _ c.places-m.ensures _ _ c.show.ensures _ c.in-Some.is _ c.from-after.ensures

pub loop-rest-smaller : goal.loop-rest-smaller
loop-rest-smaller c = find_less _ _ _ _ _ _ _ _ c.requires.numbered _ _ _ c.loop-rest.invariant _ _ c.start_at-a.ensures.0 c.start_at-e.ensures.0 _ _ c.places-m.ensures _ _ c.show.ensures _ c.in-Some.is _ c.from-after.ensures _ c.cheapest_from-p.ensures

pub loop-rest-preserved : goal.loop-rest-preserved
loop-rest-preserved c = find_on _ _ _ _ _ _ _ _ c.requires.numbered _ _ _ c.loop-rest.invariant _ _ c.start_at-a.ensures.0 c.start_at-e.ensures.0 _ _ c.places-m.ensures _ _ c.show.ensures _ c.in-Some.is _ c.from-after.ensures _ c.cheapest_from-p.ensures
