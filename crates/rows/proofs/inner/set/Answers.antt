-- What it answers is the old bit, denied, and what it stores is the word with the bit.
use mathlib.Core.Bool.{not}
use mathlib.Core.Path.{ap}
use Rattle.rows.specs.Marks.{mark, marked}
use Rattle.rows.proofs.inner.set.Goals as goal

pub returns : goal.returns
unfolding mark marked
returns c = record { new = ap not c.bit_of.ensures; left = rw c.with_bit.ensures }
