use Rattle.listings.proofs.Counting.{filling_start, filling_long, filling_rule, filling_on, filling_end}
use native.Mathlib.Omega.{arith}
use Rattle.listings.proofs.inner.counts.count_fill.Goals as goal

pub loop-r-init : goal.loop-r-init
loop-r-init c = filling_start _ _ _ _ _ c.requires _ c.clear.ensures

pub count_rule-requires : goal.count_rule-requires
count_rule-requires c = filling_rule _ _ _ _ _ c.requires _ _ _ c.loop-r.invariant _ c.from-n.ensures c.loop-r-test.true

pub loop-r-preserved : goal.loop-r-preserved
loop-r-preserved c = filling_on _ _ _ _ _ c.requires _ _ _ c.loop-r.invariant _ c.from-n.ensures c.loop-r-test.true _ _ _ c.count_rule.ensures

pub shape_of-counts : goal.shape_of-counts
shape_of-counts c = filling_long _ _ _ _ _ c.requires _ _ _ c.loop-r.invariant

pub returns : goal.returns
returns c = filling_end _ _ _ _ _ c.requires _ _ _ c.loop-r.invariant (omega (arith, c.from-n.ensures, c.loop-r-test.false))
