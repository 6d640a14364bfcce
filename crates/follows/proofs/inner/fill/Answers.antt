use mathlib.Core.Path.{◌∙◌}
use borrow.Author.Rules.{rules}
use Rattle.follows.proofs.Calling.{fill_reach, fill_first, fill_begin, fill_begun, fill_tables}
use Rattle.follows.proofs.inner.fill.Goals as goal

pub reach-requires : goal.reach-requires
reach-requires c = search (rules, fill_reach)

pub settle-requires : goal.settle-requires
settle-requires c = fill_first _ _ _ _ _ c.requires _ _ c.clear.ensures c.clear-2.ensures

pub begin-requires : goal.begin-requires
begin-requires c = fill_begin _ _ _ _ _ c.requires _ _ c.clear.ensures c.clear-2.ensures

pub settle-requires-2 : goal.settle-requires-2
settle-requires-2 c = fill_begun _ _ _ _ _ c.requires _ _ c.clear.ensures c.clear-2.ensures _ c.reach.ensures _ _ c.settle.ensures _ c.begin.ensures _

pub shape_of-first : goal.shape_of-first
shape_of-first c = c.first-2-1.given ∙ c.first-1.given

pub shape_of-empty : goal.shape_of-empty
shape_of-empty c = c.empty-2-1.given ∙ c.empty-1.given

pub shape_of-reached : goal.shape_of-reached
shape_of-reached c = c.reached-1.given

pub returns : goal.returns
returns c = fill_tables _ _ _ _ _ c.requires _ _ c.clear.ensures c.clear-2.ensures _ c.reach.ensures _ _ c.settle.ensures _ c.begin.ensures _ _ _ c.settle-2.ensures
