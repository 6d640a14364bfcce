use lib.ListN.{length}
use Rattle.grammar.specs.Links.{Linked}
use Rattle.grammar.proofs.inner.links.Given as goal

abbrev pub invariant-loop-p : goal.invariant-loop-p
invariant-loop-p l = Linked (length l.initial.head) (length l.initial.next) l.owners l.head l.next l.p
