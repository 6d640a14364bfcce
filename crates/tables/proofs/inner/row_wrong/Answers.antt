use Rattle.tables.proofs.Asking.{row_not}
use Rattle.tables.proofs.inner.row_wrong.Goals as goal

pub returns : goal.returns
returns c = row_not _ _ _ _ c.from.ensures c.words_for.ensures
