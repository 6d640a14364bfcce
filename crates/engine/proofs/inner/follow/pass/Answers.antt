use Rattle.engine.proofs.Putting.{pass_place, pass_rows, pass_done}
use Rattle.engine.proofs.inner.follow.pass.Goals as goal

pub is_set-vanishes-requires : goal.is_set-vanishes-requires
is_set-vanishes-requires c = pass_place _ _ _ _ _ c.requires _ c.row_width.ensures

pub join_from-requires : goal.join_from-requires
join_from-requires c = pass_rows _ _ _ _ _ c.requires _ _ _ c.keep.ensures c.table_width.ensures

pub returns : goal.returns
returns c = pass_done _ _ _ _ _ c.requires _ _ _ _ _ _ c.row_width.ensures c.is_set-vanishes.ensures c.keep.ensures c.table_width.ensures c.join_from.ensures
