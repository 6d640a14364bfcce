use Rattle.house.proofs.Calling.{cost_done}
use Rattle.house.proofs.fill_cost.Goals as goal

pub returns : goal.returns
returns c = cost_done _ c.house.ensures _ _ _ c.fill.ensures
