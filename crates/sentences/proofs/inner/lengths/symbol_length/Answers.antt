use Rattle.sentences.proofs.Counting.{token_counts, rule_in, rule_counts}
use borrow.Author.Rules.{rules}
use Rattle.sentences.proofs.inner.lengths.symbol_length.Goals as goal

pub returns-then-s-lt32768 : goal.returns-then-s-lt32768
returns-then-s-lt32768 c = search (rules, token_counts)

pub entry_at-requires : goal.entry_at-requires
entry_at-requires c = search (rules, rule_in)

pub returns : goal.returns
returns c = search (rules, rule_counts)
