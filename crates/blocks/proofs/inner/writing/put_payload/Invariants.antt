use Prim.Native.Nat.{◌+◌, ◌*◌}
use Rattle.grammar.specs.Lent.{flat_of}
use Rattle.grammar.specs.Flat.{at as byte_at}
use Rattle.blocks.specs.File.{payload_of}
use Rattle.blocks.proofs.Lists.{Filling}
use Rattle.blocks.proofs.inner.writing.put_payload.Given as goal

abbrev pub invariant-loop-k : goal.invariant-loop-k
invariant-loop-k l = Filling (λ j. byte_at (payload_of (flat_of l.g)) (508 * l.b + j)) l.initial.x-items l.x-items l.k
