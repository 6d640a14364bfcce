use Rattle.follows.proofs.Calling.{wrong_is}
use Rattle.follows.proofs.inner.wrong.Goals as goal

pub returns : goal.returns
returns c = wrong_is _ _ _ _ _ _ _ _ _ _ c.table_wrong.ensures c.table_wrong-2.ensures c.row_wrong.ensures c.row_wrong-2.ensures
