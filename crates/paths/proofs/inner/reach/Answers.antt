use Rattle.paths.proofs.Reaching.{reach_search, reach_short, reach_defined}
use borrow.Author.Rules.{rules}
use Rattle.paths.proofs.inner.reach.Goals as goal

pub search-requires : goal.search-requires
search-requires c = search (rules, reach_search)

pub copy-requires : goal.copy-requires
copy-requires c = search (rules, reach_short)

pub returns : goal.returns
returns c = search (rules, reach_defined)
