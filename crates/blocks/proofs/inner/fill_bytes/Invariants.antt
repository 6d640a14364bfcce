use Prim.Native.Nat.{◌+◌}
use Rattle.blocks.specs.Layout.{payload}
use Rattle.blocks.proofs.Lists.{Filling}
use Rattle.blocks.proofs.inner.fill_bytes.Given as goal

abbrev pub invariant-loop-k : goal.invariant-loop-k
invariant-loop-k l = Filling (λ j. payload l.file (l.from + j)) l.initial.x-items l.x-items l.k
