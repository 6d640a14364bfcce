use Rattle.house.proofs.Calling.{first_asked}
use Rattle.house.proofs.is_first.Goals as goal

pub returns : goal.returns
returns c = first_asked _ c.house.ensures _ _ _ _ c.is_set.ensures
