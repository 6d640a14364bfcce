use Rattle.engine.proofs.Making.{ready_row, made_row}
use Rattle.engine.proofs.inner.productive.ProductiveTable.step.Goals as goal

pub step-requires : goal.step-requires
step-requires c = ready_row _ _ _ _ _ _ c.requires

pub returns : goal.returns
returns c = made_row _ _ _ _ _ _ c.requires _ _ c.step.ensures _ _ c.told.ensures
