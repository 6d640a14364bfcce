use Rattle.dearest.proofs.Numbers.{adds_up}
use borrow.Author.Rules.{rules}
use Rattle.dearest.proofs.inner.add_up.Goals as goal

pub returns : goal.returns
returns c = search (rules, adds_up)
