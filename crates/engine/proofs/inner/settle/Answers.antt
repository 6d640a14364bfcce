use mathlib.Core.Bool.{false≢true}
use Rattle.engine.proofs.Rounding.{rounds_start, rounds_begun, rounds_again, rounds_less, rounds_done, rounds_due, rounds_long, rounds_row}
use Rattle.engine.proofs.inner.settle.Goals as goal

pub loop-more-init : goal.loop-more-init
loop-more-init g c = (rounds_start _ _ _ c.requires, λ e. absurd (false≢true e))

pub round-more-requires : goal.round-more-requires
round-more-requires g c = record { begun = rounds_begun _ _ _ c.requires _ _ c.loop-more.invariant.0; due = c.loop-more.invariant.1 }

pub loop-more-smaller : goal.loop-more-smaller
loop-more-smaller g c = rounds_less _ _ _ c.requires _ _ c.loop-more.invariant.0 _ _ _ c.round-more.ensures c.loop-more-test.true

pub loop-more-preserved : goal.loop-more-preserved
loop-more-preserved g c = (rounds_again _ _ _ c.requires _ _ c.loop-more.invariant.0 _ _ _ c.round-more.ensures, λ e. rounds_due _ _ _ c.requires _ _ c.loop-more.invariant.0 _ _ _ c.round-more.ensures)

pub shape_of-table : goal.shape_of-table
shape_of-table g c = rounds_long _ _ _ c.requires _ _ c.loop-more.invariant.0

pub shape_of-row : goal.shape_of-row
shape_of-row g c = rounds_row _ _ _ c.requires _ _ c.loop-more.invariant.0

pub returns : goal.returns
returns g c = rounds_done _ _ _ c.requires _ _ c.loop-more.invariant.0 c.loop-more-test.false
