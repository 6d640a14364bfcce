use Rattle.engine.proofs.CostStepping.{row_lists, marking, few, owner_place, row_stays, row_marks}
use borrow.Author.Rules.{rules}
use Rattle.engine.proofs.inner.productive.step.Goals as goal

pub prod_at-q-requires : goal.prod_at-q-requires
prod_at-q-requires c = search (rules, row_lists)

pub all_marked-requires : goal.all_marked-requires
all_marked-requires c = search (rules, marking)

pub returns-then-not-all_marked : goal.returns-then-not-all_marked
returns-then-not-all_marked c = search (rules, row_stays)

pub row_width-requires : goal.row_width-requires
row_width-requires c = search (rules, few)

pub set-requires : goal.set-requires
set-requires c = search (rules, owner_place)

pub returns : goal.returns
returns c = search (rules, row_marks)
