use lib.ListN.{length}
use Rattle.theory.specs.Clashes.{pair_of}
use Rattle.theory.proofs.Below.{Scanned}
use Rattle.grammar.specs.Lent.{flat_of}
use Rattle.grammar.specs.Flat.{denoted}
use Rattle.engine.specs.First.{lent as firsts}
use Rattle.profiles.specs.Rows.{marks_in, follow_in}
use Rattle.profiles.proofs.inner.higher.Given as goal

abbrev pub invariant-loop-q : goal.invariant-loop-q
invariant-loop-q l = Scanned (pair_of (denoted (flat_of l.g)) (marks_in (flat_of l.g) (firsts l.first l.empty)) (follow_in (flat_of l.g) l.follow) l.p) (length l.g.owners.now) l.q
