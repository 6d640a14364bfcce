use Rattle.profiles.proofs.Judging.{judge_passes}
use Rattle.profiles.proofs.inner.judge.Goals as goal

pub returns-in_err-low : goal.returns-in_err-low
returns-in_err-low c = rw c.from_residual.ensures (judge_passes _ _ _ c.requires c.in_err-low.ensures)
