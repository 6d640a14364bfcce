use lib.ListN.{length}
use mathlib.Core.Path.{◌≡◌}
use Rattle.tables.specs.Sizes.{words}
use Rattle.engine.specs.First.{lent}
use Rattle.engine.proofs.FirstWalking.{Walking}
use Rattle.engine.proofs.inner.first.walk.Given as goal

abbrev pub invariant-loop-s : goal.invariant-loop-s
invariant-loop-s l = (l.width ≡ words (length l.g.costs.now)) × ((l.row ≡ words l.g.rules) × Walking l.g.rules (length l.g.costs.now) l.g.symbols.now l.q.from l.q.to l.q.owner (lent l.initial.first l.empty) l.initial.first l.first l.new l.s-index)
