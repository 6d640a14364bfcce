use Rattle.grammar.specs.Lent.{flat_of}
use Rattle.report.proofs.Adding.{Lining}
use Rattle.report.proofs.rule_lines.Given as goal

abbrev pub invariant-loop-r : goal.invariant-loop-r
invariant-loop-r l =
    Lining (flat_of l.g) l.initial.out l.at l.out l.next l.r
