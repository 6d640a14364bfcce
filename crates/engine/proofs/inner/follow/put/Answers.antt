use Rattle.engine.proofs.Putting.{put_own, put_carried, put_after, put_null, put_not}
use Rattle.engine.proofs.inner.follow.put.Goals as goal

pub join-got-requires : goal.join-got-requires
join-got-requires c = put_own _ _ _ _ _ c.requires _ c.table_width-width.ensures

pub join_from-also-requires : goal.join_from-also-requires
join_from-also-requires c = put_after _ _ _ _ _ c.requires _ c.table_width-width.ensures _ _ c.join-got.ensures

pub returns-then-null : goal.returns-then-null
returns-then-null c = put_null _ _ _ _ _ c.requires _ c.table_width-width.ensures _ _ _ _ _ c.if-null.true c.join-got.ensures c.join_from-also.ensures

pub join_from-requires : goal.join_from-requires
join_from-requires c = put_carried _ _ _ _ _ c.requires _ c.table_width-width.ensures

pub returns : goal.returns
returns c = put_not _ _ _ _ _ c.requires _ c.table_width-width.ensures _ _ _ c.if-null.false c.join_from.ensures
