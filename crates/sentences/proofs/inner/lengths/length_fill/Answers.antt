use Rattle.sentences.proofs.Measuring.{length_fill_begun, length_fill_defined}
use borrow.Author.Rules.{rules}
use Rattle.sentences.proofs.inner.lengths.length_fill.Goals as goal

pub length_settle-requires : goal.length_settle-requires
length_settle-requires c = search (rules, length_fill_begun)

pub returns : goal.returns
returns c = search (rules, length_fill_defined)
