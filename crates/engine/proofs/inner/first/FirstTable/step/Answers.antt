use Rattle.engine.proofs.Making.{plain_in, made_plain, ready_first, made_first}
use Rattle.engine.proofs.inner.first.FirstTable.step.Goals as goal

pub is_plain-requires : goal.is_plain-requires
is_plain-requires c = plain_in _ _ c.requires.well c.requires.is_prod

pub returns-then-is_plain : goal.returns-then-is_plain
returns-then-is_plain c = made_plain _ _ _ _ _ _ c.requires c.if-again.true _ c.is_plain.ensures c.if-is_plain.true _ _ c.told.ensures

pub step-requires : goal.step-requires
step-requires c = ready_first _ _ _ _ _ _ c.requires

pub returns : goal.returns
returns c = made_first _ _ _ _ _ _ c.requires _ _ _ c.step.ensures _ _ c.told-2.ensures
