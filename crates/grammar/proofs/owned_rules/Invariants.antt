use Rattle.grammar.proofs.Answer.{Owned}
use Rattle.grammar.proofs.owned_rules.Given as goal

abbrev pub invariant-loop-owner : goal.invariant-loop-owner
invariant-loop-owner l = Owned l.owners l.owner-index l.owned
