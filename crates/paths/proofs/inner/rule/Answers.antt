use Rattle.paths.proofs.Going.{rule_place, rule_start, rule_start_in, rule_end_in, rule_next_in, rule_prod, rule_less, rule_on, rule_end}
use borrow.Author.Rules.{rules}
use Rattle.paths.proofs.inner.rule.Goals as goal

pub offset_bounds-head-r : goal.offset_bounds-head-r
offset_bounds-head-r c = search (rules, rule_place)

pub bounds-head-r : goal.bounds-head-r
bounds-head-r c = search (rules, rule_place)

pub loop-p-init : goal.loop-p-init
loop-p-init c = search (rules, rule_start)

pub start_at-a-requires : goal.start_at-a-requires
start_at-a-requires c = search (rules, rule_start_in)

pub start_at-e-requires : goal.start_at-e-requires
start_at-e-requires c = search (rules, rule_end_in)

pub prod-m-requires : goal.prod-m-requires
prod-m-requires c = search (rules, rule_prod)

pub offset_bounds-next-p : goal.offset_bounds-next-p
offset_bounds-next-p c = search (rules, rule_next_in)

pub bounds-next-p : goal.bounds-next-p
bounds-next-p c = search (rules, rule_next_in)

pub loop-p-smaller : goal.loop-p-smaller
loop-p-smaller c = search (rules, rule_less)

pub loop-p-preserved : goal.loop-p-preserved
loop-p-preserved c = rule_on _ _ _ _ _ _ _ c.requires _ _ c.loop-p.invariant c.loop-p-test.true _ _ c.start_at-a.ensures.0 c.start_at-e.ensures.0 _ c.from-p-in-loop-p.ensures _ c.prod-m.ensures

pub returns : goal.returns
returns c = search (rules, rule_end)
