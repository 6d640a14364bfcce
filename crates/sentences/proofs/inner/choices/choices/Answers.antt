use native.Mathlib.Omega.{arith}
use Rattle.sentences.proofs.Choosing.{choice_links, choosing_start, choice_place, choosing_ready, choosing_on, choosing_end}
use borrow.Author.Rules.{rules}
use Rattle.sentences.proofs.inner.choices.choices.Goals as goal

pub links-requires : goal.links-requires
links-requires c = search (rules, choice_links)

pub loop-r-init : goal.loop-r-init
loop-r-init c = search (rules, choosing_start)

pub offset_bounds-head-r : goal.offset_bounds-head-r
offset_bounds-head-r c = search (rules, choice_place)

pub bounds-head-r : goal.bounds-head-r
bounds-head-r c = search (rules, choice_place)

pub cheapest_from-x-requires : goal.cheapest_from-x-requires
cheapest_from-x-requires c = choosing_ready _ _ _ c.requires _ _ c.links.ensures _ _ c.loop-r.invariant (omega arith) _ c.from-p.ensures

pub offset_bounds-choice-r : goal.offset_bounds-choice-r
offset_bounds-choice-r c = search (rules, choice_place)

pub bounds-choice-r : goal.bounds-choice-r
bounds-choice-r c = search (rules, choice_place)

pub loop-r-preserved : goal.loop-r-preserved
loop-r-preserved c = choosing_on _ _ _ c.requires _ _ c.links.ensures _ _ c.loop-r.invariant (omega arith) _ c.from-p.ensures _ c.cheapest_from-x.ensures

pub returns : goal.returns
returns c = choosing_end _ _ _ c.requires _ _ c.links.ensures _ _ c.loop-r.invariant (omega arith)
