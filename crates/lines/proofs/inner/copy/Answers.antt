use native.Mathlib.Omega.{arith}
use Rattle.lines.proofs.Copying.{copied}
use Rattle.lines.proofs.inner.copy.Goals as goal

pub returns : goal.returns
returns c = copied c.args.text.now c.args.out.now _ _ _ c.requires (omega arith) c.copy_from_slice.ensures.after
