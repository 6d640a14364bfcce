use Prim.Native.Nat.{◌+◌, ◌*◌}
use Rattle.blocks.specs.Layout.{number}
use Rattle.blocks.proofs.Lists.{Filling}
use Rattle.blocks.proofs.inner.fill_numbers.Given as goal

abbrev pub invariant-loop-k : goal.invariant-loop-k
invariant-loop-k l = Filling (λ j. number l.file (l.from + 2 * j)) l.initial.x-items l.x-items l.k
