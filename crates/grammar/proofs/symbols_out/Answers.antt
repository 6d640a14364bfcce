use mathlib.Core.Path.{refl, ◌∙◌}
use Rattle.grammar.specs.Refusals.{symbols_out}
use Rattle.grammar.proofs.Answer.{tests_none, tests_more, tests_all, past_out}
use borrow.Author.Rules.{rules}
use Rattle.grammar.proofs.symbols_out.Goals as goal

pub loop-symbol-init : goal.loop-symbol-init
loop-symbol-init c = search (rules, tests_none)

pub loop-symbol-preserved : goal.loop-symbol-preserved
loop-symbol-preserved c = tests_more _ _ _ _ c.loop-symbol.invariant (c.symbol_out-out.ensures ∙ past_out _ _ _ _ _ refl refl)

pub returns : goal.returns
unfolding symbols_out
returns c = search (rules, tests_all)
