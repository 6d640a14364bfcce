use mathlib.Core.Path.{refl}
use native.Mathlib.Omega.{arith}
use Rattle.blocks.specs.File.{numbers_of}
use Rattle.blocks.proofs.Writing.{tokens_at, prods_at, held_at, owner_at, start_at, symbol_at, symbol_in}
use native.Mathlib.Omega.{arith}
use borrow.Author.Rules.{rules}
use Rattle.blocks.proofs.inner.writing.number_at.Goals as goal

pub returns-then-j-eq0 : goal.returns-then-j-eq0
unfolding numbers_of
returns-then-j-eq0 c = search rules

pub returns-then-j-eq1 : goal.returns-then-j-eq1
returns-then-j-eq1 c = search (rules, tokens_at)

pub returns-then-j-eq2 : goal.returns-then-j-eq2
returns-then-j-eq2 c = search (rules, prods_at)

pub returns-then-j-eq3 : goal.returns-then-j-eq3
returns-then-j-eq3 c = search (rules, held_at)

pub returns-then-o-g : goal.returns-then-o-g
returns-then-o-g c = owner_at _ _ (omega arith) _ (omega arith) refl

pub returns-then-s-g : goal.returns-then-s-g
returns-then-s-g c = start_at _ _ (omega arith) _ (omega arith) (omega arith) refl

pub offset_bounds-g-y : goal.offset_bounds-g-y
offset_bounds-g-y c = omega (arith, symbol_in _ _ c.requires (omega arith) (omega arith) (omega arith))

pub bounds-g-y : goal.bounds-g-y
bounds-g-y c = symbol_in _ _ c.requires (omega arith) (omega arith) (omega arith)

pub returns : goal.returns
returns c = symbol_at _ _ (omega arith) _ (omega arith) (omega arith) refl
