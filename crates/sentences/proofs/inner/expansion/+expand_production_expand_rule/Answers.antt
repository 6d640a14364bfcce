use mathlib.Core.Path.{refl}
use Rattle.sentences.proofs.Expanding.{expanding_start, expanding_end, expanding_long, expanding_place, expanding_low, expanding_token, expanding_rule, expanding_on, rule_empty, rule_choice, rule_copyable, rule_copied, rule_level, rule_start, rule_next, rule_production, rule_wrote}
use native.Mathlib.Omega.{arith}
use Rattle.sentences.proofs.inner.expansion.+expand_production_expand_rule.Goals as goal

pub expand_production-loop-s-init : goal.expand_production-loop-s-init
expand_production-loop-s-init t c = expanding_start _ _ _ _ _ _ _ _ _ c.requires

pub expand_production-offset_bounds-out-next : goal.expand_production-offset_bounds-out-next
expand_production-offset_bounds-out-next t c = omega (arith, expanding_low _ _ _ _ _ _ _ _ _ c.requires _ _ _ _ c.loop-s.invariant c.loop-s-test.true _ refl c.if-s-lt32768.true)

pub expand_production-bounds-out-next : goal.expand_production-bounds-out-next
expand_production-bounds-out-next t c = expanding_place _ _ _ _ _ _ _ _ _ c.requires _ _ _ _ c.loop-s.invariant c.loop-s-test.true _ refl c.if-s-lt32768.true

pub expand_production-overflow_add-next : goal.expand_production-overflow_add-next
expand_production-overflow_add-next t c = omega (arith, expanding_low _ _ _ _ _ _ _ _ _ c.requires _ _ _ _ c.loop-s.invariant c.loop-s-test.true _ refl c.if-s-lt32768.true)

pub expand_production-loop-s-preserved-then-s-lt32768 : goal.expand_production-loop-s-preserved-then-s-lt32768
expand_production-loop-s-preserved-then-s-lt32768 t c = expanding_token _ _ _ _ _ _ _ _ _ c.requires _ _ _ _ c.loop-s.invariant c.loop-s-test.true _ refl c.if-s-lt32768.true

pub expand_production-expand_rule-next-requires : goal.expand_production-expand_rule-next-requires
expand_production-expand_rule-next-requires t c = (omega arith, expanding_rule _ _ _ _ _ _ _ _ _ c.requires _ _ _ _ c.loop-s.invariant c.loop-s-test.true _ refl c.if-s-lt32768.false _ c.from-r.ensures)

pub expand_production-loop-s-preserved : goal.expand_production-loop-s-preserved
expand_production-loop-s-preserved t c = expanding_on _ _ _ _ _ _ _ _ _ c.requires _ _ _ _ c.loop-s.invariant c.loop-s-test.true _ refl c.if-s-lt32768.false _ c.from-r.ensures _ _ _ c.expand_rule-next.ensures

pub expand_production-shape_of-out : goal.expand_production-shape_of-out
expand_production-shape_of-out t c = expanding_long _ _ _ _ _ _ _ _ _ c.requires _ _ _ _ c.loop-s.invariant

pub expand_production-returns : goal.expand_production-returns
expand_production-returns t c = expanding_end _ _ _ _ _ _ _ _ _ c.requires _ _ _ _ c.loop-s.invariant c.loop-s-test.false

pub expand_rule-returns-then-n-eq0 : goal.expand_rule-returns-then-n-eq0
expand_rule-returns-then-n-eq0 t c = rule_empty _ _ _ _ _ _ _ _ c.requires _ c.entry_at-n.ensures c.if-n-eq0.true

pub expand_rule-copy-requires : goal.expand_rule-copy-requires
expand_rule-copy-requires t c = rule_copyable _ _ _ _ _ _ _ _ c.requires _ c.entry_at-n.ensures _ refl c.if-from-lt-NOT_WRITTEN.true

pub expand_rule-returns-then-from-lt-NOT_WRITTEN : goal.expand_rule-returns-then-from-lt-NOT_WRITTEN
expand_rule-returns-then-from-lt-NOT_WRITTEN t c = rule_copied _ _ _ _ _ _ _ _ c.requires _ c.entry_at-n.ensures _ refl c.if-from-lt-NOT_WRITTEN.true _ _ c.copy.ensures

pub expand_rule-start_at-a-requires : goal.expand_rule-start_at-a-requires
expand_rule-start_at-a-requires t c = rule_start _ _ _ _ _ _ _ _ c.requires _ c.from-p.ensures

pub expand_rule-start_at-e-requires : goal.expand_rule-start_at-e-requires
expand_rule-start_at-e-requires t c = rule_next _ _ _ _ _ _ _ _ c.requires _ c.from-p.ensures

pub expand_rule-overflow_sub-levels : goal.expand_rule-overflow_sub-levels
expand_rule-overflow_sub-levels t c = rule_level _ _ _ _ _ _ _ _ c.requires

pub expand_rule-expand_production-next-requires : goal.expand_rule-expand_production-next-requires
expand_rule-expand_production-next-requires t c = (omega (arith, rule_level _ _ _ _ _ _ _ _ c.requires), rule_production _ _ _ _ _ _ _ _ c.requires _ c.from-p.ensures _ _ c.start_at-a.ensures.0 c.start_at-e.ensures.0)

pub expand_rule-bounds-begun-r-2 : goal.expand_rule-bounds-begun-r-2
expand_rule-bounds-begun-r-2 t c = rule_choice _ _ _ _ _ _ _ _ c.requires

pub expand_rule-returns : goal.expand_rule-returns
expand_rule-returns t c = rule_wrote _ _ _ _ _ _ _ _ c.requires _ c.from-p.ensures _ _ c.start_at-a.ensures.0 c.start_at-e.ensures.0 _ _ _ c.expand_production-next.ensures
