use borrow.Author.Rules.{rules}
use Rattle.engine.proofs.Rounding.{turn_start, turn_ready, turn_on, turn_end, turn_long, turn_row}
use Rattle.engine.proofs.inner.round.Goals as goal

pub loop-i-init : goal.loop-i-init
loop-i-init g c = turn_start _ _ _ c.requires.begun c.args.down _ (search rules)

pub step-got-requires : goal.step-got-requires
step-got-requires g c = turn_ready _ _ _ c.requires.begun _ _ _ _ _ c.loop-i.invariant _ c.requires.due _ c.loop-i-test.true c.turn_at-p.ensures

pub loop-i-preserved : goal.loop-i-preserved
loop-i-preserved g c = turn_on _ _ _ c.requires.begun _ _ _ _ _ c.loop-i.invariant _ _ _ _ _ c.loop-i-test.true c.turn_at-p.ensures c.step-got.ensures

pub shape_of-table : goal.shape_of-table
shape_of-table g c = turn_long _ _ _ c.requires.begun _ _ _ _ _ c.loop-i.invariant

pub shape_of-row : goal.shape_of-row
shape_of-row g c = turn_row _ _ _ c.requires.begun _ _ _ _ _ c.loop-i.invariant

pub returns : goal.returns
returns g c = turn_end _ _ _ c.requires.begun _ _ _ _ _ c.loop-i.invariant c.loop-i.auto.i-end c.loop-i-test.false
