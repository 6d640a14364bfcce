use Rattle.tables.proofs.Asking.{words_are, words_few, words_most}
use borrow.Author.Rules.{rules}
use Rattle.tables.proofs.inner.table_words.Goals as goal

pub overflow_mul-result : goal.overflow_mul-result
overflow_mul-result c = search (rules, words_few)

pub returns : goal.returns
returns c = search (rules, words_are, words_most)
