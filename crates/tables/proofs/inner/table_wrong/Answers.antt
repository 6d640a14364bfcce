use Rattle.tables.proofs.Asking.{table_not}
use Rattle.tables.proofs.inner.table_wrong.Goals as goal

pub returns : goal.returns
returns c = table_not _ _ _ _ _ c.from.ensures c.table_words.ensures.is
