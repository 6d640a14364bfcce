use Rattle.house.proofs.Calling.{first_done}
use Rattle.house.proofs.fill_first.Goals as goal

pub returns : goal.returns
returns c = first_done _ c.house.ensures _ _ _ _ _ c.fill.ensures
