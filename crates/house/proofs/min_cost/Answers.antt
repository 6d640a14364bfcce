use Rattle.house.proofs.Calling.{cost_asked}
use Rattle.house.proofs.min_cost.Goals as goal

pub returns : goal.returns
returns c = cost_asked _ c.house.ensures _ _ _ _ c.min_sentence_cost.ensures
