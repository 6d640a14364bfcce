-- One shifted by less than 32 is exact.
use mathlib.Core.Path.{ap, ◌∙◌}
use native.Mathlib.Nat.{one-mul}
use native.Mathlib.Omega.{arith}
use lib.Bits.{bit_or}
use lib.Pow.{shl_exact}
use Rattle.rows.specs.Marks.{with_bit}
use Rattle.rows.proofs.inner.with_bit.Goals as goal

pub returns : goal.returns
unfolding with_bit
returns c = ap (λ n. bit_or c.args.word n) (shl_exact 1 c.args.j 32 (omega arith) (omega arith) ∙ one-mul _)
