-- The bit is the word shifted and taken mod 2.
use mathlib.Core.Path.{refl}
use Rattle.rows.specs.Marks.{bit}
use Rattle.rows.proofs.inner.bit_of.Goals as goal

pub returns : goal.returns
unfolding bit
returns c = refl
