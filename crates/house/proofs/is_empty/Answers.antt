use Rattle.house.proofs.Calling.{empty_asked}
use Rattle.house.proofs.is_empty.Goals as goal

pub returns : goal.returns
returns c = empty_asked _ c.house.ensures _ _ _ c.is_rule_set.ensures
