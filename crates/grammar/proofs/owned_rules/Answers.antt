use Rattle.grammar.proofs.Answer.{owned_none, owned_more, owned_all}
use Rattle.grammar.proofs.Well.{owner_in}
use borrow.Author.Rules.{rules}
use Rattle.grammar.proofs.owned_rules.Goals as goal

pub loop-owner-init : goal.loop-owner-init
loop-owner-init c = search (rules, owned_none)

pub bounds-owned-from : goal.bounds-owned-from
bounds-owned-from c = search (rules, owner_in)

pub loop-owner-preserved : goal.loop-owner-preserved
loop-owner-preserved c = search (rules, owned_more, owner_in)

pub returns : goal.returns
returns c = search (rules, owned_all)
