use Rattle.profiles.proofs.Pairing.{shared_least}
use Rattle.profiles.proofs.inner.shared.Goals as goal

pub least_shared-requires : goal.least_shared-requires
least_shared-requires c = c.requires.0.reads.well.sizes.tokens_high

pub returns : goal.returns
returns c = shared_least _ _ _ _ _ _ _ _ c.requires.0 c.starts_row-row.ensures c.starts_row-other.ensures c.least_shared.ensures.upto c.least_shared.ensures.first
