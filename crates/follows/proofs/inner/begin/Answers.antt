use mathlib.Core.Path.{◌∙◌}
use Rattle.follows.proofs.inner.begin.Goals as goal

pub returns : goal.returns
returns c = c.set.ensures.left ∙ rw (c.words_for.ensures, c.clear.ensures)
