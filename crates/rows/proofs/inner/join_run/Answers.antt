use native.Mathlib.Omega.{arith}
use borrow.Author.Rules.{rules}
use Rattle.rows.proofs.Runs.{run_more}
use Rattle.rows.proofs.inner.join_run.Goals as goal

pub loop-k-preserved : goal.loop-k-preserved
loop-k-preserved c = (search rules, run_more _ _ _ _ _ _ c.requires.0.fits c.requires.1 c.run_at-words.result c.run_at-words.ensures _ c.args.new c.loop-k.all _ _ _ (omega (arith, c.requires.0.to, c.loop-k.invariant.0)) (omega arith) c.loop-k.invariant.1 c.join_word-all.ensures)
