use lib.Dec.{eqb}
use Rattle.grammar.specs.Refusals.{start_held}
use Rattle.grammar.proofs.Answer.{contains_some}
use Rattle.grammar.proofs.start_held.Goals as goal

pub returns : goal.returns
unfolding start_held
returns c = contains_some (λ s. eqb s 32768) c.args.symbols.now _ c.contains.ensures.cases
