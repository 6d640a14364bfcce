use Rattle.sentences.proofs.Choosing.{rule_entry, rising_start, from_dear, from_none, from_found, rising_lists, rising_place, rising_pricing, rising_less, rising_on}
use borrow.Author.Rules.{rules}
use Rattle.sentences.proofs.inner.choices.cheapest_from.Goals as goal

pub entry_at-least-requires : goal.entry_at-least-requires
entry_at-least-requires c = search (rules, rule_entry)

pub returns-then-least-gt-COST_MAX : goal.returns-then-least-gt-COST_MAX
returns-then-least-gt-COST_MAX c = search (rules, from_dear)

pub loop-q-init : goal.loop-q-init
loop-q-init c = search (rules, rising_start)

pub prod_at-x-requires : goal.prod_at-x-requires
prod_at-x-requires c = search (rules, rising_lists)

pub sum-s-requires : goal.sum-s-requires
sum-s-requires c = rising_pricing _ _ _ _ _ _ _ _ _ c.requires _ c.entry_at-least.ensures c.if-least-gt-COST_MAX.false _ c.loop-q.invariant c.loop-q-test.true _ _ _ c.prod_at-x.ensures

pub offset_bounds-next-q : goal.offset_bounds-next-q
offset_bounds-next-q c = search (rules, rising_place)

pub bounds-next-q : goal.bounds-next-q
bounds-next-q c = search (rules, rising_place)

pub returns-then-s-least : goal.returns-then-s-least
returns-then-s-least c = search (rules, from_found)

pub loop-q-smaller : goal.loop-q-smaller
loop-q-smaller c = search (rules, rising_less)

pub loop-q-preserved : goal.loop-q-preserved
loop-q-preserved c = search (rules, rising_on)

pub returns : goal.returns
returns c = search (rules, from_none)
