use Rattle.house.proofs.Calling.{row_written}
use Rattle.house.proofs.cheapest_row.Goals as goal

pub returns : goal.returns
returns c = row_written _ c.house.ensures _ _ _ _ _ _ _ c.min_sentence.ensures
