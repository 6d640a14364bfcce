use mathlib.Core.Path.{refl}
use native.Mathlib.Omega.{arith}
use Rattle.engine.proofs.FirstStepping.{in_lists, walkable, few, empty_place, steps_past, steps_stay}
use borrow.Author.Rules.{rules}
use Rattle.engine.proofs.inner.first.step.Goals as goal

pub prod_at-q-requires : goal.prod_at-q-requires
prod_at-q-requires c = search (rules, in_lists)

pub walk-w-requires : goal.walk-w-requires
walk-w-requires c = walkable _ _ _ _ _ _ _ c.requires _ _ _ _ refl c.prod_at-q.ensures

pub row_width-requires : goal.row_width-requires
row_width-requires c = omega (arith, few _ _ _ _ _ _ _ c.requires _ _ _ _ refl c.prod_at-q.ensures)

pub set-got-requires : goal.set-got-requires
set-got-requires c = empty_place _ _ _ _ _ _ _ c.requires _ _ _ _ refl c.prod_at-q.ensures _ c.row_width.ensures

pub returns-then-w : goal.returns-then-w
returns-then-w c = steps_past _ _ _ c.requires _ _ _ _ refl c.prod_at-q.ensures _ _ _ c.walk-w.ensures c.if-w.true _ _ _ c.row_width.ensures c.set-got.ensures.new c.set-got.ensures.left

pub returns : goal.returns
returns c = steps_stay _ _ _ c.requires _ _ _ _ refl c.prod_at-q.ensures _ _ _ c.walk-w.ensures c.if-w.false
