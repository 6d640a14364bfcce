use Prim.Native.Nat.{◌+◌, ◌*◌}
use Rattle.grammar.specs.Lent.{flat_of}
use Rattle.sentences.proofs.Expanding.{Expanding}
use Rattle.sentences.proofs.inner.expansion.+expand_production_expand_rule.Given as goal

abbrev pub decreases-expand_production : goal.decreases-expand_production
decreases-expand_production l = l.levels * 2 + 1

abbrev pub invariant-expand_production-loop-s : goal.invariant-expand_production-loop-s
invariant-expand_production-loop-s l = Expanding (flat_of l.g) l.choice l.levels l.a l.e l.at l.initial.out l.s-index l.next l.begun l.out

abbrev pub decreases-expand_rule : goal.decreases-expand_rule
decreases-expand_rule l = l.levels * 2
