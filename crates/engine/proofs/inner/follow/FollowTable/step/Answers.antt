use Rattle.engine.proofs.Making.{ready_follow, made_follow}
use Rattle.engine.proofs.inner.follow.FollowTable.step.Goals as goal

pub step-requires : goal.step-requires
step-requires c = ready_follow _ _ _ _ _ _ _ c.requires

pub returns : goal.returns
returns c = made_follow _ _ _ _ _ _ _ c.requires _ _ c.step.ensures _ _ c.told.ensures
