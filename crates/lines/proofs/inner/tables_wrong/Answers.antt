use Rattle.lines.proofs.Calling.{tables_not}
use borrow.Author.Rules.{rules}
use Rattle.lines.proofs.inner.tables_wrong.Goals as goal

pub returns : goal.returns
returns c = search (rules, tables_not)
