use Rattle.paths.proofs.Turning.{find_begun}
use Rattle.paths.proofs.inner.find.Goals as goal

pub links-requires : goal.links-requires
links-requires c = c.requires.linkable

pub turns-requires : goal.turns-requires
turns-requires c = find_begun _ _ _ _ _ _ _ _ _ _ _ c.requires c.links.ensures
