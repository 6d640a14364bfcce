use borrow.Author.Rules.{rules}
use Rattle.sentences.proofs.Copying.{copied}
use Rattle.sentences.proofs.inner.expansion.copy.Goals as goal

pub returns : goal.returns
returns c = search (rules, copied)
