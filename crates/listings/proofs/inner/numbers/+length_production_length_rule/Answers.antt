use mathlib.Core.Path.{refl}
use Rattle.listings.proofs.Along.{along_entry, along_length, along_place}
use Rattle.listings.proofs.Measuring.{measured_entry, measured_find, measured_first, measured_is, measured_level, measured_next_at, measured_production, measured_start_at, measuring_caps, measuring_end, measuring_first, measuring_on, measuring_one, measuring_rule, measuring_rule_caps, measuring_start, measuring_token}
use native.Mathlib.Omega.{arith}
use Rattle.listings.proofs.inner.numbers.+length_production_length_rule.Goals as goal

pub length_production-loop-s-init : goal.length_production-loop-s-init
length_production-loop-s-init t c = measuring_start _ _ _ _ _ _ _ _ _ _ c.requires

pub length_production-add-n-requires : goal.length_production-add-n-requires
length_production-add-n-requires t c = measuring_one _ _ _ _ _ _ _ _ _ _ c.requires _ _ _ c.loop-s.invariant c.loop-s-test.true _ refl

pub length_production-loop-s-preserved-then-s-lt32768 : goal.length_production-loop-s-preserved-then-s-lt32768
length_production-loop-s-preserved-then-s-lt32768 t c = measuring_token _ _ _ _ _ _ _ _ _ _ c.requires _ _ _ c.loop-s.invariant c.loop-s-test.true _ refl c.if-s-lt32768.true _ c.add-n.ensures

pub length_production-entry_at-requires : goal.length_production-entry_at-requires
length_production-entry_at-requires t c = along_entry _ _ _ _ _ _ _ _ _ _ c.requires _ _ c.loop-s.invariant.along c.loop-s-test.true _ refl c.if-s-lt32768.false _ c.from-r.ensures

pub length_production-entry_at-requires-then-entry_at-eq1 : goal.length_production-entry_at-requires-then-entry_at-eq1
length_production-entry_at-requires-then-entry_at-eq1 t c = along_length _ _ _ _ _ _ _ _ _ _ c.requires _ _ c.loop-s.invariant.along c.loop-s-test.true _ refl c.if-s-lt32768.false _ c.from-r.ensures

pub length_production-add-n-requires-then-entry_at-eq1 : goal.length_production-add-n-requires-then-entry_at-eq1
length_production-add-n-requires-then-entry_at-eq1 t c = measuring_caps _ _ _ _ _ _ _ _ _ _ c.requires _ _ _ c.loop-s.invariant c.loop-s-test.true _ refl c.if-s-lt32768.false _ c.from-r.ensures _ c.entry_at.ensures c.if-entry_at-eq1.true _ c.entry_at-then-entry_at-eq1.ensures

pub length_production-loop-s-preserved-then-entry_at-eq1 : goal.length_production-loop-s-preserved-then-entry_at-eq1
length_production-loop-s-preserved-then-entry_at-eq1 t c = measuring_first _ _ _ _ _ _ _ _ _ _ c.requires _ _ _ c.loop-s.invariant c.loop-s-test.true _ refl c.if-s-lt32768.false _ c.from-r.ensures _ c.entry_at.ensures c.if-entry_at-eq1.true _ c.entry_at-then-entry_at-eq1.ensures _ c.add-n-then-entry_at-eq1.ensures

pub length_production-offset_bounds-todo-j : goal.length_production-offset_bounds-todo-j
length_production-offset_bounds-todo-j t c = omega (arith, along_place _ _ _ _ _ _ _ _ _ _ c.requires _ _ c.loop-s.invariant.along c.loop-s-test.true _ refl c.if-s-lt32768.false _ c.from-r.ensures _ c.entry_at.ensures c.if-entry_at-eq1.false)

pub length_production-bounds-todo-j : goal.length_production-bounds-todo-j
length_production-bounds-todo-j t c = along_place _ _ _ _ _ _ _ _ _ _ c.requires _ _ c.loop-s.invariant.along c.loop-s-test.true _ refl c.if-s-lt32768.false _ c.from-r.ensures _ c.entry_at.ensures c.if-entry_at-eq1.false

pub length_production-length_rule-x-requires : goal.length_production-length_rule-x-requires
length_production-length_rule-x-requires t c = (omega arith, measuring_rule _ _ _ _ _ _ _ _ _ _ c.requires _ _ _ c.loop-s.invariant c.loop-s-test.true _ refl c.if-s-lt32768.false _ c.from-r.ensures _ c.entry_at.ensures c.if-entry_at-eq1.false _ refl)

pub length_production-add-n-requires-in-loop-s : goal.length_production-add-n-requires-in-loop-s
length_production-add-n-requires-in-loop-s t c = measuring_rule_caps _ _ _ _ _ _ _ _ _ _ c.requires _ _ _ c.loop-s.invariant c.loop-s-test.true _ refl c.if-s-lt32768.false _ c.from-r.ensures _ c.entry_at.ensures c.if-entry_at-eq1.false _ refl _ c.length_rule-x.ensures

pub length_production-overflow_add-j : goal.length_production-overflow_add-j
length_production-overflow_add-j t c = omega (arith, along_place _ _ _ _ _ _ _ _ _ _ c.requires _ _ c.loop-s.invariant.along c.loop-s-test.true _ refl c.if-s-lt32768.false _ c.from-r.ensures _ c.entry_at.ensures c.if-entry_at-eq1.false)

pub length_production-loop-s-preserved : goal.length_production-loop-s-preserved
length_production-loop-s-preserved t c = measuring_on _ _ _ _ _ _ _ _ _ _ c.requires _ _ _ c.loop-s.invariant c.loop-s-test.true _ refl c.if-s-lt32768.false _ c.from-r.ensures _ c.entry_at.ensures c.if-entry_at-eq1.false _ refl _ c.length_rule-x.ensures _ c.add-n-in-loop-s.ensures

pub length_production-returns : goal.length_production-returns
length_production-returns t c = measuring_end _ _ _ _ _ _ _ _ _ _ c.requires _ _ _ c.loop-s.invariant c.loop-s-test.false

pub length_rule-entry_at-requires : goal.length_rule-entry_at-requires
length_rule-entry_at-requires t c = measured_entry _ _ _ _ _ _ _ _ _ c.requires

pub length_rule-returns-then-k-eq0 : goal.length_rule-returns-then-k-eq0
length_rule-returns-then-k-eq0 t c = measured_first _ _ _ _ _ _ _ _ _ c.requires c.if-k-eq0.true _ c.entry_at.ensures

pub length_rule-overflow_sub-levels : goal.length_rule-overflow_sub-levels
length_rule-overflow_sub-levels t c = measured_level _ _ _ _ _ _ _ _ _ c.requires

pub length_rule-find-p-requires : goal.length_rule-find-p-requires
length_rule-find-p-requires t c = measured_find _ _ _ _ _ _ _ _ _ c.requires

pub length_rule-start_at-a-requires : goal.length_rule-start_at-a-requires
length_rule-start_at-a-requires t c = measured_start_at _ _ _ _ _ _ _ _ _ c.requires _ _ c.find-p.ensures

pub length_rule-start_at-e-requires : goal.length_rule-start_at-e-requires
length_rule-start_at-e-requires t c = measured_next_at _ _ _ _ _ _ _ _ _ c.requires _ _ c.find-p.ensures

pub length_rule-overflow_sub-levels-2 : goal.length_rule-overflow_sub-levels-2
length_rule-overflow_sub-levels-2 t c = measured_level _ _ _ _ _ _ _ _ _ c.requires

pub length_rule-length_production-requires : goal.length_rule-length_production-requires
length_rule-length_production-requires t c = (omega (arith, measured_level _ _ _ _ _ _ _ _ _ c.requires), measured_production _ _ _ _ _ _ _ _ _ c.requires _ _ c.find-p.ensures _ _ c.start_at-a.ensures.0 c.start_at-e.ensures.0)

pub length_rule-returns : goal.length_rule-returns
length_rule-returns t c = measured_is _ _ _ _ _ _ _ _ _ c.requires _ _ c.find-p.ensures _ _ c.start_at-a.ensures.0 c.start_at-e.ensures.0 _ c.length_production.ensures
