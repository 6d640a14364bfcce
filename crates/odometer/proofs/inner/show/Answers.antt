use mathlib.Core.Path.{refl}
use Rattle.odometer.proofs.Turning.{show_some, show_turnable, show_at, show_past}
use Rattle.odometer.proofs.inner.show.Goals as goal

pub nonzero_div-k : goal.nonzero_div-k
nonzero_div-k c = show_some _ _ _ c.requires c.if-m-eq0.false _ refl

pub turn-requires-2 : goal.turn-requires-2
turn-requires-2 c = show_turnable _ _ _ c.requires c.if-m-eq0.false

pub nonzero_rem-todo : goal.nonzero_rem-todo
nonzero_rem-todo c = show_some _ _ _ c.requires c.if-m-eq0.false _ refl

pub returns-in_default : goal.returns-in_default
returns-in_default c = show_at _ _ _ c.requires c.if-m-eq0.false _ refl _ _ _ c.turn-2.ensures c.in_default.is

pub nonzero_rem-result : goal.nonzero_rem-result
nonzero_rem-result c = show_some _ _ _ c.requires c.if-m-eq0.false _ refl

pub returns : goal.returns
returns c = show_past _ _ _ c.requires c.if-m-eq0.false _ refl _ _ _ c.turn-2.ensures _ c.in-Some.is
