use Rattle.blocks.proofs.Writing.{low_at, high_at, cost_at, spare_at, pair_numbered}
use borrow.Author.Rules.{rules}
use Rattle.blocks.proofs.inner.writing.payload_at.Goals as goal

pub number_at-x-requires : goal.number_at-x-requires
number_at-x-requires c = search (rules, pair_numbered)

pub returns-then-i-eq0 : goal.returns-then-i-eq0
returns-then-i-eq0 c = search (rules, low_at)

pub returns-then-i-n : goal.returns-then-i-n
returns-then-i-n c = search (rules, high_at)

pub returns-then-k-g : goal.returns-then-k-g
returns-then-k-g c = search (rules, cost_at)

pub returns : goal.returns
returns c = search (rules, spare_at)
