use Rattle.grammar.proofs.Answer.{sizes_are}
use borrow.Author.Rules.{rules}
use Rattle.grammar.proofs.inner.sizes_out.Goals as goal

pub returns : goal.returns
returns c = search (rules, sizes_are)
