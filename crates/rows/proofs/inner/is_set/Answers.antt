-- The mark is a bit of its word.
use Rattle.rows.specs.Marks.{mark}
use Rattle.rows.proofs.inner.is_set.Goals as goal

pub returns : goal.returns
unfolding mark
returns c = c.bit_of.ensures
