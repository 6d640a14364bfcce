use native.Mathlib.Omega.{arith}
use Rattle.odometer.proofs.Turning.{turning_start, turning_end, turned_start, turned_place, turned_below, turned_up, turned_on, turned_spills}
use Rattle.odometer.proofs.inner.turn.Goals as goal

pub turns-init : goal.turns-init
turns-init c = turning_start _ _ _ _ c.requires

pub returns-then-left-eq0 : goal.returns-then-left-eq0
returns-then-left-eq0 c = turning_end _ _ _ _ _ _ c.turns.invariant c.if-left-eq0.true

pub loop-j-init : goal.loop-j-init
loop-j-init c = turned_start _ _ _ _ _ _ c.turns.invariant c.if-left-eq0.false

pub offset_bounds-todo-j : goal.offset_bounds-todo-j
offset_bounds-todo-j c = let l = c.loop-j in omega (arith, turned_place _ _ _ _ _ _ _ l.invariant c.if-j-eq0.false)

pub bounds-todo-j : goal.bounds-todo-j
bounds-todo-j c = turned_place _ _ _ _ _ _ _ c.loop-j.invariant c.if-j-eq0.false

pub overflow_add-d : goal.overflow_add-d
overflow_add-d c = omega (arith, turned_below _ _ _ _ _ _ _ c.loop-j.invariant c.if-j-eq0.false)

pub offset_bounds-bases-j : goal.offset_bounds-bases-j
offset_bounds-bases-j c = omega (arith, turned_place _ _ _ _ _ _ _ c.loop-j.invariant c.if-j-eq0.false)

pub bounds-bases-j : goal.bounds-bases-j
bounds-bases-j c = turned_place _ _ _ _ _ _ _ c.loop-j.invariant c.if-j-eq0.false

pub overflow_add-todo : goal.overflow_add-todo
overflow_add-todo c = omega (arith, turned_below _ _ _ _ _ _ _ c.loop-j.invariant c.if-j-eq0.false)

pub offset_bounds-todo-j-then-d-bases : goal.offset_bounds-todo-j-then-d-bases
offset_bounds-todo-j-then-d-bases c = omega (arith, turned_place _ _ _ _ _ _ _ c.loop-j.invariant c.if-j-eq0.false)

pub bounds-todo-j-then-d-bases : goal.bounds-todo-j-then-d-bases
bounds-todo-j-then-d-bases c = turned_place _ _ _ _ _ _ _ c.loop-j.invariant c.if-j-eq0.false

pub turns-smaller : goal.turns-smaller
turns-smaller c = omega (arith, c.if-left-eq0.false)

pub turns-preserved : goal.turns-preserved
turns-preserved c = turned_up _ _ _ _ _ _ _ c.loop-j.invariant c.if-j-eq0.false _ _ c.turns.invariant c.if-d-bases.true

pub offset_bounds-todo-j-in-loop-j : goal.offset_bounds-todo-j-in-loop-j
offset_bounds-todo-j-in-loop-j c = omega (arith, turned_place _ _ _ _ _ _ _ c.loop-j.invariant c.if-j-eq0.false)

pub bounds-todo-j-in-loop-j : goal.bounds-todo-j-in-loop-j
bounds-todo-j-in-loop-j c = turned_place _ _ _ _ _ _ _ c.loop-j.invariant c.if-j-eq0.false

pub loop-j-smaller : goal.loop-j-smaller
loop-j-smaller c = omega (arith, c.if-j-eq0.false)

pub loop-j-preserved : goal.loop-j-preserved
loop-j-preserved c = turned_on _ _ _ _ _ _ _ c.loop-j.invariant c.if-j-eq0.false c.if-d-bases.false

pub returns : goal.returns
returns c = turned_spills _ _ _ _ _ _ _ c.loop-j.invariant c.if-j-eq0.true _ _ c.turns.invariant
