use mathlib.Core.Path.{◌≡◌}
use Rattle.theory.specs.Below.{some}
use Rattle.grammar.specs.Flat.{at}
use Rattle.grammar.specs.Refusals.{symbol_out}
use Rattle.grammar.proofs.symbols_out.Given as goal

abbrev pub invariant-loop-symbol : goal.invariant-loop-symbol
invariant-loop-symbol l = l.out ≡ some l.symbol-index (λ j. symbol_out l.rules l.tokens (at l.symbols j))
