use mathlib.Core.Path.{refl}
use Rattle.house.specs.Table.{owners, starts, symbols, costs}
use Rattle.house.proofs.house.Goals as goal

pub returns : goal.returns
unfolding owners starts symbols costs
returns c = refl
