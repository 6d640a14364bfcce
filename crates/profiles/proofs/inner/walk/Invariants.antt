use mathlib.Core.Path.{◌≡◌}
use Rattle.tables.specs.Sizes.{words}
use Rattle.engine.specs.First.{lent as firsts}
use Rattle.profiles.proofs.Walking.{Going}
use Rattle.profiles.proofs.inner.walk.Given as goal

abbrev pub invariant-loop-s : goal.invariant-loop-s
invariant-loop-s l = (l.width ≡ words l.tokens) × ((l.line ≡ words l.rules) × Going l.rules l.tokens l.symbols l.a l.e (firsts l.first l.empty) l.initial.row l.row l.s-index)
