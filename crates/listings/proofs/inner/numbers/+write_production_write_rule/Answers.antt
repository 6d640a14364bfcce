use mathlib.Core.Path.{refl}
use Rattle.listings.proofs.Along.{along_entry, along_place}
use Rattle.listings.proofs.Measuring.{measured_find, measured_level, measured_next_at, measured_start_at}
use Rattle.listings.proofs.Writing.{writing_end, writing_first, writing_long, writing_on, writing_one, writing_place, writing_rule, writing_start, writing_token, writing_low, written_first, written_is, written_production, written_ready}
use native.Mathlib.Omega.{arith}
use Rattle.listings.proofs.inner.numbers.+write_production_write_rule.Goals as goal

pub write_production-loop-s-init : goal.write_production-loop-s-init
write_production-loop-s-init t c = writing_start _ _ _ _ _ _ _ _ _ _ _ _ _ c.requires

pub write_production-offset_bounds-out-to : goal.write_production-offset_bounds-out-to
write_production-offset_bounds-out-to t c = omega (arith, writing_low _ _ _ _ _ _ _ _ _ _ _ _ _ c.requires _ _ _ _ _ c.loop-s.invariant c.loop-s-test.true _ refl c.if-s-lt32768.true)

pub write_production-bounds-out-to : goal.write_production-bounds-out-to
write_production-bounds-out-to t c = writing_place _ _ _ _ _ _ _ _ _ _ _ _ _ c.requires _ _ _ _ _ c.loop-s.invariant c.loop-s-test.true _ refl c.if-s-lt32768.true

pub write_production-overflow_add-to : goal.write_production-overflow_add-to
write_production-overflow_add-to t c = omega (arith, writing_low _ _ _ _ _ _ _ _ _ _ _ _ _ c.requires _ _ _ _ _ c.loop-s.invariant c.loop-s-test.true _ refl c.if-s-lt32768.true)

pub write_production-loop-s-preserved-then-s-lt32768 : goal.write_production-loop-s-preserved-then-s-lt32768
write_production-loop-s-preserved-then-s-lt32768 t c = writing_token _ _ _ _ _ _ _ _ _ _ _ _ _ c.requires _ _ _ _ _ c.loop-s.invariant c.loop-s-test.true _ refl c.if-s-lt32768.true

pub write_production-entry_at-requires : goal.write_production-entry_at-requires
write_production-entry_at-requires t c = along_entry _ _ _ _ _ _ _ _ _ _ c.requires.measure _ _ c.loop-s.invariant.along c.loop-s-test.true _ refl c.if-s-lt32768.false _ c.from-r.ensures

pub write_production-expand_rule-to-requires : goal.write_production-expand_rule-to-requires
write_production-expand_rule-to-requires t c = writing_first _ _ _ _ _ _ _ _ _ _ _ _ _ c.requires _ _ _ _ _ c.loop-s.invariant c.loop-s-test.true _ refl c.if-s-lt32768.false _ c.from-r.ensures _ c.entry_at.ensures c.if-entry_at-eq1.true

pub write_production-loop-s-preserved-then-entry_at-eq1 : goal.write_production-loop-s-preserved-then-entry_at-eq1
write_production-loop-s-preserved-then-entry_at-eq1 t c = writing_one _ _ _ _ _ _ _ _ _ _ _ _ _ c.requires _ _ _ _ _ c.loop-s.invariant c.loop-s-test.true _ refl c.if-s-lt32768.false _ c.from-r.ensures _ c.entry_at.ensures c.if-entry_at-eq1.true _ _ _ c.expand_rule-to.ensures

pub write_production-offset_bounds-todo-j : goal.write_production-offset_bounds-todo-j
write_production-offset_bounds-todo-j t c = omega (arith, along_place _ _ _ _ _ _ _ _ _ _ c.requires.measure _ _ c.loop-s.invariant.along c.loop-s-test.true _ refl c.if-s-lt32768.false _ c.from-r.ensures _ c.entry_at.ensures c.if-entry_at-eq1.false)

pub write_production-bounds-todo-j : goal.write_production-bounds-todo-j
write_production-bounds-todo-j t c = along_place _ _ _ _ _ _ _ _ _ _ c.requires.measure _ _ c.loop-s.invariant.along c.loop-s-test.true _ refl c.if-s-lt32768.false _ c.from-r.ensures _ c.entry_at.ensures c.if-entry_at-eq1.false

pub write_production-write_rule-to-requires : goal.write_production-write_rule-to-requires
write_production-write_rule-to-requires t c = (omega arith, writing_rule _ _ _ _ _ _ _ _ _ _ _ _ _ c.requires _ _ _ _ _ c.loop-s.invariant c.loop-s-test.true _ refl c.if-s-lt32768.false _ c.from-r.ensures _ c.entry_at.ensures c.if-entry_at-eq1.false _ refl)

pub write_production-overflow_add-j : goal.write_production-overflow_add-j
write_production-overflow_add-j t c = omega (arith, along_place _ _ _ _ _ _ _ _ _ _ c.requires.measure _ _ c.loop-s.invariant.along c.loop-s-test.true _ refl c.if-s-lt32768.false _ c.from-r.ensures _ c.entry_at.ensures c.if-entry_at-eq1.false)

pub write_production-loop-s-preserved : goal.write_production-loop-s-preserved
write_production-loop-s-preserved t c = writing_on _ _ _ _ _ _ _ _ _ _ _ _ _ c.requires _ _ _ _ _ c.loop-s.invariant c.loop-s-test.true _ refl c.if-s-lt32768.false _ c.from-r.ensures _ c.entry_at.ensures c.if-entry_at-eq1.false _ refl _ _ _ c.write_rule-to.ensures

pub write_production-shape_of-out : goal.write_production-shape_of-out
write_production-shape_of-out t c = writing_long _ _ _ _ _ _ _ _ _ _ _ _ _ c.requires _ _ _ _ _ c.loop-s.invariant

pub write_production-returns : goal.write_production-returns
write_production-returns t c = writing_end _ _ _ _ _ _ _ _ _ _ _ _ _ c.requires _ _ _ _ _ c.loop-s.invariant c.loop-s-test.false

pub write_rule-expand_rule-requires : goal.write_rule-expand_rule-requires
write_rule-expand_rule-requires t c = written_ready _ _ _ _ _ _ _ _ _ _ _ _ c.requires c.if-k-eq0.true

pub write_rule-returns-then-k-eq0 : goal.write_rule-returns-then-k-eq0
write_rule-returns-then-k-eq0 t c = written_first _ _ _ _ _ _ _ _ _ _ _ _ c.requires c.if-k-eq0.true _ _ _ c.expand_rule.ensures

pub write_rule-overflow_sub-levels : goal.write_rule-overflow_sub-levels
write_rule-overflow_sub-levels t c = measured_level _ _ _ _ _ _ _ _ _ c.requires.measure

pub write_rule-find-p-requires : goal.write_rule-find-p-requires
write_rule-find-p-requires t c = measured_find _ _ _ _ _ _ _ _ _ c.requires.measure

pub write_rule-start_at-a-requires : goal.write_rule-start_at-a-requires
write_rule-start_at-a-requires t c = measured_start_at _ _ _ _ _ _ _ _ _ c.requires.measure _ _ c.find-p.ensures

pub write_rule-start_at-e-requires : goal.write_rule-start_at-e-requires
write_rule-start_at-e-requires t c = measured_next_at _ _ _ _ _ _ _ _ _ c.requires.measure _ _ c.find-p.ensures

pub write_rule-overflow_sub-levels-2 : goal.write_rule-overflow_sub-levels-2
write_rule-overflow_sub-levels-2 t c = measured_level _ _ _ _ _ _ _ _ _ c.requires.measure

pub write_rule-write_production-requires : goal.write_rule-write_production-requires
write_rule-write_production-requires t c = (omega (arith, measured_level _ _ _ _ _ _ _ _ _ c.requires.measure), written_production _ _ _ _ _ _ _ _ _ _ _ _ c.requires _ _ c.find-p.ensures _ _ c.start_at-a.ensures.0 c.start_at-e.ensures.0)

pub write_rule-returns : goal.write_rule-returns
write_rule-returns t c = written_is _ _ _ _ _ _ _ _ _ _ _ _ c.requires _ _ c.find-p.ensures _ _ c.start_at-a.ensures.0 c.start_at-e.ensures.0 _ _ _ c.write_production.ensures
