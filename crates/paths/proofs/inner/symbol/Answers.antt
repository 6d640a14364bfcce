use native.Mathlib.Omega.{arith}
use Rattle.paths.proofs.Going.{symbol_pass, symbol_room, symbol_new}
use borrow.Author.Rules.{rules}
use Rattle.paths.proofs.inner.symbol.Goals as goal

pub returns-then-s-is_set : goal.returns-then-s-is_set
returns-then-s-is_set c = search (rules, symbol_pass)

pub offset_bounds-list-n : goal.offset_bounds-list-n
offset_bounds-list-n c = omega (arith, c.requires.kept.short, symbol_room _ _ c.requires _ c.from-r.ensures _ c.is_set.ensures c.if-s-is_set.false)

pub bounds-list-n : goal.bounds-list-n
bounds-list-n c = symbol_room _ _ c.requires _ c.from-r.ensures _ c.is_set.ensures c.if-s-is_set.false

pub overflow_add-result : goal.overflow_add-result
overflow_add-result c = omega (arith, c.requires.kept.short, symbol_room _ _ c.requires _ c.from-r.ensures _ c.is_set.ensures c.if-s-is_set.false)

pub returns : goal.returns
returns c = search (rules, symbol_new)
