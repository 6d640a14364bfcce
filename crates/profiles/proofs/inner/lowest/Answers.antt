use Rattle.profiles.proofs.Turning.{turns_none}
use Rattle.profiles.proofs.inner.lowest.Goals as goal

pub loop-p-init : goal.loop-p-init
loop-p-init c = turns_none _ _ _ c.requires
