use Rattle.paths.proofs.Turning.{search_small, search_large}
use borrow.Author.Rules.{rules}
use Rattle.paths.proofs.inner.search.Goals as goal

pub find-requires : goal.find-requires
find-requires c = search (rules, search_small)

pub find-requires-2 : goal.find-requires-2
find-requires-2 c = search (rules, search_large)
