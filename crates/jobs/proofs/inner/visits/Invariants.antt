use Rattle.grammar.specs.Lent.{flat_of}
use Rattle.jobs.specs.Kinds.{tables, kind_number}
use Rattle.jobs.proofs.Working.{Working}
use Rattle.jobs.proofs.inner.visits.Given as goal

abbrev pub invariant-loop-made : goal.invariant-loop-made
invariant-loop-made l = Working (kind_number l.kind) (flat_of l.g) l.fn.from (tables l.initial.first l.initial.empty l.initial.follow l.initial.productive l.initial.cost l.reached) l.at (tables l.first l.empty l.follow l.productive l.cost l.reached) l.made
