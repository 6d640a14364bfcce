-- One shifted by less than 32 is exact.
use mathlib.Core.Path.{ap, ◌∙◌}
use Prim.Native.Nat.{◌%◌}
use native.Mathlib.Nat.{one-mul}
use native.Mathlib.Omega.{arith}
use lib.Pow.{shl_exact, pow_pos}
use Rattle.rows.proofs.inner.low_bits.Goals as goal

pub nonzero_rem-result : goal.nonzero_rem-result
nonzero_rem-result c = omega (arith, shl_exact {a = 1} 1 c.args.k 32 (omega arith) (omega arith), pow_pos c.args.k)

pub returns : goal.returns
returns c = ap (λ n. c.args.word % n) (shl_exact 1 c.args.k 32 (omega arith) (omega arith) ∙ one-mul _)
