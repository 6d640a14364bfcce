use Rattle.engine.proofs.Making.{ready_cost, made_cost}
use Rattle.engine.proofs.inner.cost.CostTable.step.Goals as goal

pub step-requires : goal.step-requires
step-requires c = ready_cost _ _ _ _ _ _ c.requires

pub returns : goal.returns
returns c = made_cost _ _ _ _ _ _ c.requires _ _ _ _ c.step.ensures
