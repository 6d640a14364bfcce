use native.Mathlib.Omega.{arith}
use Rattle.blocks.proofs.Chains.{sum_block}
use Rattle.blocks.proofs.inner.block_sum.Goals as goal

pub returns : goal.returns
returns c = sum_block c.args.file.now c.args.b c.args.n _ _ (omega arith) (omega arith) c.sum_of.ensures
