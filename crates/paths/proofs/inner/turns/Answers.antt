use native.Mathlib.Omega.{arith}
use Rattle.paths.proofs.Turning.{turns_start, turns_in, turns_long, turns_yes, turns_no, turns_place, turns_on, turns_less}
use borrow.Author.Rules.{rules}
use Rattle.paths.proofs.inner.turns.Goals as goal

pub loop-from-init : goal.loop-from-init
loop-from-init c = search (rules, turns_start)

pub rule-n-requires : goal.rule-n-requires
rule-n-requires c = c.loop-from.invariant.ready

pub is_set-requires : goal.is_set-requires
is_set-requires c = turns_in _ _ _ _ _ _ _ _ _ _ _ c.loop-from.invariant _ c.rule-n.ensures

pub shape_of-list-then-is_set : goal.shape_of-list-then-is_set
shape_of-list-then-is_set c = turns_long _ _ _ _ _ _ _ _ _ _ _ c.loop-from.invariant _ c.rule-n.ensures

pub returns-then-is_set : goal.returns-then-is_set
returns-then-is_set c = turns_yes _ _ _ _ _ _ _ _ _ _ _ c.loop-from.invariant _ c.rule-n.ensures _ c.is_set.ensures c.if-is_set.true

pub shape_of-list-then-n-done : goal.shape_of-list-then-n-done
shape_of-list-then-n-done c = turns_long _ _ _ _ _ _ _ _ _ _ _ c.loop-from.invariant _ c.rule-n.ensures

pub returns-then-n-done : goal.returns-then-n-done
returns-then-n-done c = turns_no _ _ _ _ _ _ _ _ _ _ _ c.loop-from.invariant _ c.rule-n.ensures _ c.is_set.ensures c.if-is_set.false c.if-n-done.true

pub offset_bounds-list-done : goal.offset_bounds-list-done
offset_bounds-list-done c = omega (arith, c.loop-from.invariant.ready.kept.short, c.rule-n.ensures.kept.short, turns_place _ _ _ _ _ _ _ _ _ _ _ c.loop-from.invariant _ c.rule-n.ensures _ c.is_set.ensures c.if-is_set.false c.if-n-done.false)

pub bounds-list-done : goal.bounds-list-done
bounds-list-done c = turns_place _ _ _ _ _ _ _ _ _ _ _ c.loop-from.invariant _ c.rule-n.ensures _ c.is_set.ensures c.if-is_set.false c.if-n-done.false

pub overflow_add-done : goal.overflow_add-done
overflow_add-done c = omega (arith, c.rule-n.ensures.kept.short, turns_place _ _ _ _ _ _ _ _ _ _ _ c.loop-from.invariant _ c.rule-n.ensures _ c.is_set.ensures c.if-is_set.false c.if-n-done.false)

pub loop-from-smaller : goal.loop-from-smaller
loop-from-smaller c = turns_less _ _ _ _ _ _ _ _ _ _ _ c.loop-from.invariant _ c.rule-n.ensures _ c.is_set.ensures c.if-is_set.false c.if-n-done.false

pub loop-from-preserved : goal.loop-from-preserved
loop-from-preserved c = turns_on _ _ _ _ _ _ _ _ _ _ _ c.loop-from.invariant _ c.rule-n.ensures _ c.is_set.ensures c.if-is_set.false c.if-n-done.false _ c.from-r.ensures
