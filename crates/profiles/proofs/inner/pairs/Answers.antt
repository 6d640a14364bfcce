use Rattle.profiles.proofs.Pairing.{pair_other, pair_rows, pair_place, pair_is}
use Rattle.profiles.proofs.inner.pairs.Goals as goal

pub returns-then-g-q : goal.returns-then-g-q
returns-then-g-q c = pair_other _ _ _ _ _ _ c.requires c.if-g-q.true

pub starts_row-other-requires : goal.starts_row-other-requires
starts_row-other-requires c = pair_rows _ _ _ _ _ _ c.requires

pub meets-requires : goal.meets-requires
meets-requires c = pair_place _ _ _ _ _ _ c.requires _ c.starts_row-other.ensures

pub returns : goal.returns
returns c = pair_is _ _ _ _ _ _ c.requires _ c.starts_row-other.ensures c.if-g-q.false _ c.meets.ensures
