use native.Mathlib.Omega.{arith}
use lib.ListN.{replicate}
use Rattle.blocks.proofs.Steps.{taken}
use Rattle.report.proofs.Filling.{zeros, reached_long, sets_done, sets_full}
use Rattle.report.proofs.fill_sets.Goals as goal

pub slice_bounds-fill-end : goal.slice_bounds-fill-end
slice_bounds-fill-end c = taken _ (replicate 16 0) (omega (arith, zeros 16))

pub unwrap-requires : goal.unwrap-requires
unwrap-requires c = sets_done _ _ _ _ _ c.requires (reached_long _ c.requires.well _ _ c.from.ensures c.words_for-w.ensures) _ c.fill.ensures

pub returns : goal.returns
returns c = sets_full _ _ _ _ _ c.requires (reached_long _ c.requires.well _ _ c.from.ensures c.words_for-w.ensures) c.fill.ensures
