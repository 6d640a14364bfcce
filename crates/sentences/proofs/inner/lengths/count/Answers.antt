use Rattle.sentences.proofs.Counting.{counted_start, counted_end, counted_symbol, counted_unknown, counted_on}
use borrow.Author.Rules.{rules}
use Rattle.sentences.proofs.inner.lengths.count.Goals as goal

pub loop-s-init : goal.loop-s-init
loop-s-init c = search (rules, counted_start)

pub symbol_length-x-requires : goal.symbol_length-x-requires
symbol_length-x-requires c = search (rules, counted_symbol)

pub returns-then-x-gt-LENGTH_LONG : goal.returns-then-x-gt-LENGTH_LONG
returns-then-x-gt-LENGTH_LONG c = search (rules, counted_unknown)

pub loop-s-preserved : goal.loop-s-preserved
loop-s-preserved c = search (rules, counted_on)

pub returns : goal.returns
returns c = search (rules, counted_end)
