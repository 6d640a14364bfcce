use Rattle.tables.proofs.Asking.{numbers_not}
use Rattle.tables.proofs.inner.numbers_wrong.Goals as goal

pub returns : goal.returns
returns c = numbers_not _ _ _ c.from.ensures
