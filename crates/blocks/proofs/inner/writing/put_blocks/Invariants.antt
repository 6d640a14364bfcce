use Rattle.grammar.specs.Lent.{flat_of}
use Rattle.blocks.specs.File.{payload_of}
use Rattle.blocks.proofs.Writing.{Blocked}
use Rattle.blocks.proofs.inner.writing.put_blocks.Given as goal

abbrev pub invariant-loop-b : goal.invariant-loop-b
invariant-loop-b l = Blocked (payload_of (flat_of l.g)) l.initial.out l.out l.at l.b
