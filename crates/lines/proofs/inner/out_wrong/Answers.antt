use Rattle.lines.proofs.Calling.{out_not}
use borrow.Author.Rules.{rules}
use Rattle.lines.proofs.inner.out_wrong.Goals as goal

pub returns : goal.returns
returns c = search (rules, out_not)
