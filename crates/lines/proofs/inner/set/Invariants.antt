use Rattle.lines.proofs.Sets.{Setting}
use Rattle.lines.proofs.inner.set.Given as goal

abbrev pub invariant-loop-t : goal.invariant-loop-t
invariant-loop-t l = Setting l.tokens l.width l.table l.r l.initial.out l.at l.out l.next l.some l.t
