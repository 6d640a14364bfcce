use Rattle.house.proofs.Calling.{check_done}
use Rattle.house.proofs.check.Goals as goal

pub returns : goal.returns
returns c = check_done _ c.house.ensures _ c.check.ensures
