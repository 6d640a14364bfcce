use native.Mathlib.Omega.{arith}
use Rattle.profiles.proofs.Rowing.{in_lists, few_words, row_walkable, row_stops, follow_place, place_in, row_passes}
use mathlib.Core.Path.{ap}
use mathlib.Core.Bool.{not}
use Rattle.profiles.proofs.inner.starts_row.Goals as goal

pub prod_at-q-requires : goal.prod_at-q-requires
prod_at-q-requires c = in_lists _ _ _ _ _ _ _ _ c.requires

pub walk-requires : goal.walk-requires
walk-requires c = row_walkable _ _ _ _ _ _ _ _ c.requires _ _ _ _ c.from-n.ensures c.prod_at-q.ensures

pub returns-then-not-walk : goal.returns-then-not-walk
returns-then-not-walk c = row_stops _ _ _ _ _ _ _ _ c.requires _ _ _ _ c.from-n.ensures c.prod_at-q.ensures _ _ c.walk.ensures (ap not c.if-not-walk.true)

pub words_for-requires : goal.words_for-requires
words_for-requires c = omega (arith, few_words _ _ _ _ _ _ _ _ c.requires)

pub join_from-requires : goal.join_from-requires
join_from-requires c = follow_place _ _ _ _ _ _ _ _ c.requires _ _ _ _ c.from-n.ensures c.prod_at-q.ensures _ _ c.walk.ensures _ c.words_for.ensures

pub set-requires : goal.set-requires
set-requires c = place_in _ _ _ _ _ _ _ _ c.requires _ _ _ _ c.from-n.ensures c.prod_at-q.ensures _ _ c.walk.ensures _ _ _ c.words_for.ensures c.join_from.ensures

pub returns : goal.returns
returns c = row_passes _ _ _ _ _ _ _ _ c.requires _ _ _ _ c.from-n.ensures c.prod_at-q.ensures _ _ c.walk.ensures _ _ _ c.words_for.ensures c.join_from.ensures (ap not c.if-not-walk.false) _ c.set.ensures.left
