use mathlib.Core.Path.{refl}
use Rattle.listings.proofs.Counting.{producing_caps, producing_end, producing_fails, producing_long, producing_long_on, producing_on, producing_rule, producing_start, producing_token, rule_entry, rule_known, rule_level, rule_none, rule_place, ruling_caps, ruling_end, ruling_entry, ruling_fails, ruling_from, ruling_less, ruling_long_on, ruling_long_set, ruling_next_at, ruling_on, ruling_place, ruling_production, ruling_start, ruling_start_at}
use native.Mathlib.Omega.{arith}
use Rattle.listings.proofs.inner.counts.+count_production_count_rule.Goals as goal

pub count_production-loop-s-init : goal.count_production-loop-s-init
count_production-loop-s-init t c = producing_start _ _ _ _ _ _ _ _ _ c.requires

pub count_production-loop-s-preserved-then-s-lt32768 : goal.count_production-loop-s-preserved-then-s-lt32768
count_production-loop-s-preserved-then-s-lt32768 t c = producing_token _ _ _ _ _ _ _ _ _ c.requires _ _ _ _ c.loop-s.invariant c.loop-s-test.true _ refl c.if-s-lt32768.true

pub count_production-count_rule-x-requires : goal.count_production-count_rule-x-requires
count_production-count_rule-x-requires t c = (omega arith, producing_rule _ _ _ _ _ _ _ _ _ c.requires _ _ _ _ c.loop-s.invariant c.loop-s-test.true _ refl c.if-s-lt32768.false _ c.from-r.ensures)

pub count_production-shape_of-counts-then-x-gt-COUNT_MANY : goal.count_production-shape_of-counts-then-x-gt-COUNT_MANY
count_production-shape_of-counts-then-x-gt-COUNT_MANY t c = producing_long_on _ _ _ _ _ _ _ _ _ c.requires _ _ _ _ c.loop-s.invariant c.loop-s-test.true _ refl c.if-s-lt32768.false _ c.from-r.ensures _ _ _ c.count_rule-x.ensures

pub count_production-returns-then-x-gt-COUNT_MANY : goal.count_production-returns-then-x-gt-COUNT_MANY
count_production-returns-then-x-gt-COUNT_MANY t c = producing_fails _ _ _ _ _ _ _ _ _ c.requires _ _ _ _ c.loop-s.invariant c.loop-s-test.true _ refl c.if-s-lt32768.false _ c.from-r.ensures _ _ _ c.count_rule-x.ensures c.if-x-gt-COUNT_MANY.true

pub count_production-times-n-requires : goal.count_production-times-n-requires
count_production-times-n-requires t c = producing_caps _ _ _ _ _ _ _ _ _ c.requires _ _ _ _ c.loop-s.invariant c.loop-s-test.true _ refl c.if-s-lt32768.false _ c.from-r.ensures _ _ _ c.count_rule-x.ensures c.if-x-gt-COUNT_MANY.false

pub count_production-loop-s-preserved : goal.count_production-loop-s-preserved
count_production-loop-s-preserved t c = producing_on _ _ _ _ _ _ _ _ _ c.requires _ _ _ _ c.loop-s.invariant c.loop-s-test.true _ refl c.if-s-lt32768.false _ c.from-r.ensures _ _ _ c.count_rule-x.ensures c.if-x-gt-COUNT_MANY.false _ c.times-n.ensures

pub count_production-shape_of-counts : goal.count_production-shape_of-counts
count_production-shape_of-counts t c = producing_long _ _ _ _ _ _ _ _ _ c.requires _ _ _ _ c.loop-s.invariant

pub count_production-returns : goal.count_production-returns
count_production-returns t c = producing_end _ _ _ _ _ _ _ _ _ c.requires _ _ _ _ c.loop-s.invariant c.loop-s-test.false

pub count_rule-entry_at-known-requires : goal.count_rule-entry_at-known-requires
count_rule-entry_at-known-requires t c = rule_entry _ _ _ _ _ _ _ _ c.requires

pub count_rule-returns-then-known-le-COUNT_MANY : goal.count_rule-returns-then-known-le-COUNT_MANY
count_rule-returns-then-known-le-COUNT_MANY t c = rule_known _ _ _ _ _ _ _ _ c.requires _ c.entry_at-known.ensures c.if-known-le-COUNT_MANY.true

pub count_rule-offset_bounds-choice-r : goal.count_rule-offset_bounds-choice-r
count_rule-offset_bounds-choice-r t c = omega (arith, rule_place _ _ _ _ _ _ _ _ c.requires)

pub count_rule-bounds-choice-r : goal.count_rule-bounds-choice-r
count_rule-bounds-choice-r t c = rule_place _ _ _ _ _ _ _ _ c.requires

pub count_rule-offset_bounds-shallow-r : goal.count_rule-offset_bounds-shallow-r
count_rule-offset_bounds-shallow-r t c = omega (arith, rule_place _ _ _ _ _ _ _ _ c.requires)

pub count_rule-bounds-shallow-r : goal.count_rule-bounds-shallow-r
count_rule-bounds-shallow-r t c = rule_place _ _ _ _ _ _ _ _ c.requires

pub count_rule-returns-then-p-levels : goal.count_rule-returns-then-p-levels
count_rule-returns-then-p-levels t c = rule_none _ _ _ _ _ _ _ _ c.requires _ c.entry_at-known.ensures c.if-known-le-COUNT_MANY.false _ c.from-p.ensures _ c.from.ensures c.if-p-levels.true

pub count_rule-loop-p-init : goal.count_rule-loop-p-init
count_rule-loop-p-init t c = ruling_start _ _ _ _ _ _ _ _ c.requires _ c.entry_at-known.ensures c.if-known-le-COUNT_MANY.false _ c.from-p.ensures _ c.from.ensures c.if-p-levels.false

pub count_rule-overflow_sub-levels : goal.count_rule-overflow_sub-levels
count_rule-overflow_sub-levels t c = rule_level _ _ _ _ _ _ _ _ c.requires _ c.entry_at-known.ensures c.if-known-le-COUNT_MANY.false _ c.from-p.ensures _ c.from.ensures c.if-p-levels.false

pub count_rule-start_at-requires : goal.count_rule-start_at-requires
count_rule-start_at-requires t c = ruling_start_at _ _ _ _ _ _ _ _ c.requires _ c.entry_at-known.ensures c.if-known-le-COUNT_MANY.false _ c.from-p.ensures _ c.from.ensures c.if-p-levels.false _ _ _ _ c.loop-p.invariant c.loop-p-test.true

pub count_rule-start_at-requires-in-loop-p : goal.count_rule-start_at-requires-in-loop-p
count_rule-start_at-requires-in-loop-p t c = ruling_next_at _ _ _ _ _ _ _ _ c.requires _ c.entry_at-known.ensures c.if-known-le-COUNT_MANY.false _ c.from-p.ensures _ c.from.ensures c.if-p-levels.false _ _ _ _ c.loop-p.invariant c.loop-p-test.true

pub count_rule-count_production-x-requires : goal.count_rule-count_production-x-requires
count_rule-count_production-x-requires t c = (omega (arith, rule_level _ _ _ _ _ _ _ _ c.requires _ c.entry_at-known.ensures c.if-known-le-COUNT_MANY.false _ c.from-p.ensures _ c.from.ensures c.if-p-levels.false), ruling_production _ _ _ _ _ _ _ _ c.requires _ c.entry_at-known.ensures c.if-known-le-COUNT_MANY.false _ c.from-p.ensures _ c.from.ensures c.if-p-levels.false _ _ _ _ c.loop-p.invariant c.loop-p-test.true _ _ c.start_at.ensures.0 c.start_at-in-loop-p.ensures.0)

pub count_rule-overflow_cast-shallow : goal.count_rule-overflow_cast-shallow
count_rule-overflow_cast-shallow t c = omega (arith, c.requires.most)

pub count_rule-offset_bounds-shallow-r-then-x-gt-COUNT_MANY : goal.count_rule-offset_bounds-shallow-r-then-x-gt-COUNT_MANY
count_rule-offset_bounds-shallow-r-then-x-gt-COUNT_MANY t c = omega (arith, rule_place _ _ _ _ _ _ _ _ c.requires)

pub count_rule-bounds-shallow-r-then-x-gt-COUNT_MANY : goal.count_rule-bounds-shallow-r-then-x-gt-COUNT_MANY
count_rule-bounds-shallow-r-then-x-gt-COUNT_MANY t c = rule_place _ _ _ _ _ _ _ _ c.requires

pub count_rule-shape_of-counts-then-x-gt-COUNT_MANY : goal.count_rule-shape_of-counts-then-x-gt-COUNT_MANY
count_rule-shape_of-counts-then-x-gt-COUNT_MANY t c = ruling_long_on _ _ _ _ _ _ _ _ c.requires _ c.entry_at-known.ensures c.if-known-le-COUNT_MANY.false _ c.from-p.ensures _ c.from.ensures c.if-p-levels.false _ _ _ _ c.loop-p.invariant c.loop-p-test.true _ _ c.start_at.ensures.0 c.start_at-in-loop-p.ensures.0 _ _ _ c.count_production-x.ensures

pub count_rule-returns-then-x-gt-COUNT_MANY : goal.count_rule-returns-then-x-gt-COUNT_MANY
count_rule-returns-then-x-gt-COUNT_MANY t c = ruling_fails _ _ _ _ _ _ _ _ c.requires _ c.entry_at-known.ensures c.if-known-le-COUNT_MANY.false _ c.from-p.ensures _ c.from.ensures c.if-p-levels.false _ _ _ _ c.loop-p.invariant c.loop-p-test.true _ _ c.start_at.ensures.0 c.start_at-in-loop-p.ensures.0 _ _ _ c.count_production-x.ensures c.if-x-gt-COUNT_MANY.true

pub count_rule-add-total-requires : goal.count_rule-add-total-requires
count_rule-add-total-requires t c = ruling_caps _ _ _ _ _ _ _ _ c.requires _ c.entry_at-known.ensures c.if-known-le-COUNT_MANY.false _ c.from-p.ensures _ c.from.ensures c.if-p-levels.false _ _ _ _ c.loop-p.invariant c.loop-p-test.true _ _ c.start_at.ensures.0 c.start_at-in-loop-p.ensures.0 _ _ _ c.count_production-x.ensures c.if-x-gt-COUNT_MANY.false

pub count_rule-offset_bounds-next-p : goal.count_rule-offset_bounds-next-p
count_rule-offset_bounds-next-p t c = omega (arith, ruling_place _ _ _ _ _ _ _ _ c.requires _ c.entry_at-known.ensures c.if-known-le-COUNT_MANY.false _ c.from-p.ensures _ c.from.ensures c.if-p-levels.false _ _ _ _ c.loop-p.invariant c.loop-p-test.true)

pub count_rule-bounds-next-p : goal.count_rule-bounds-next-p
count_rule-bounds-next-p t c = ruling_place _ _ _ _ _ _ _ _ c.requires _ c.entry_at-known.ensures c.if-known-le-COUNT_MANY.false _ c.from-p.ensures _ c.from.ensures c.if-p-levels.false _ _ _ _ c.loop-p.invariant c.loop-p-test.true

pub count_rule-cheapest_from-p-requires : goal.count_rule-cheapest_from-p-requires
count_rule-cheapest_from-p-requires t c = ruling_from _ _ _ _ _ _ _ _ c.requires _ c.entry_at-known.ensures c.if-known-le-COUNT_MANY.false _ c.from-p.ensures _ c.from.ensures c.if-p-levels.false _ _ _ _ c.loop-p.invariant c.loop-p-test.true _ _ c.start_at.ensures.0 c.start_at-in-loop-p.ensures.0 _ _ _ c.count_production-x.ensures c.if-x-gt-COUNT_MANY.false _ c.from-in-loop-p.ensures

pub count_rule-loop-p-smaller : goal.count_rule-loop-p-smaller
count_rule-loop-p-smaller t c = ruling_less _ _ _ _ _ _ _ _ c.requires _ c.entry_at-known.ensures c.if-known-le-COUNT_MANY.false _ c.from-p.ensures _ c.from.ensures c.if-p-levels.false _ _ _ _ c.loop-p.invariant c.loop-p-test.true _ _ c.start_at.ensures.0 c.start_at-in-loop-p.ensures.0 _ _ _ c.count_production-x.ensures c.if-x-gt-COUNT_MANY.false _ c.from-in-loop-p.ensures _ c.cheapest_from-p.ensures

pub count_rule-loop-p-preserved : goal.count_rule-loop-p-preserved
count_rule-loop-p-preserved t c = ruling_on _ _ _ _ _ _ _ _ c.requires _ c.entry_at-known.ensures c.if-known-le-COUNT_MANY.false _ c.from-p.ensures _ c.from.ensures c.if-p-levels.false _ _ _ _ c.loop-p.invariant c.loop-p-test.true _ _ c.start_at.ensures.0 c.start_at-in-loop-p.ensures.0 _ _ _ c.count_production-x.ensures c.if-x-gt-COUNT_MANY.false _ c.from-in-loop-p.ensures _ c.cheapest_from-p.ensures _ c.add-total.ensures

pub count_rule-offset_bounds-counts-r : goal.count_rule-offset_bounds-counts-r
count_rule-offset_bounds-counts-r t c = omega (arith, rule_place _ _ _ _ _ _ _ _ c.requires)

pub count_rule-bounds-counts-r : goal.count_rule-bounds-counts-r
count_rule-bounds-counts-r t c = ruling_entry _ _ _ _ _ _ _ _ c.requires _ c.entry_at-known.ensures c.if-known-le-COUNT_MANY.false _ c.from-p.ensures _ c.from.ensures c.if-p-levels.false _ _ _ _ c.loop-p.invariant

pub count_rule-shape_of-counts : goal.count_rule-shape_of-counts
count_rule-shape_of-counts t c = ruling_long_set _ _ _ _ _ _ _ _ c.requires _ c.entry_at-known.ensures c.if-known-le-COUNT_MANY.false _ c.from-p.ensures _ c.from.ensures c.if-p-levels.false _ _ _ _ c.loop-p.invariant

pub count_rule-returns : goal.count_rule-returns
count_rule-returns t c = ruling_end _ _ _ _ _ _ _ _ c.requires _ c.entry_at-known.ensures c.if-known-le-COUNT_MANY.false _ c.from-p.ensures _ c.from.ensures c.if-p-levels.false _ _ _ _ c.loop-p.invariant c.loop-p-test.false
