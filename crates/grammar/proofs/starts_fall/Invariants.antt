use mathlib.Core.Path.{◌≡◌}
use Prim.Native.Nat.{◌+◌}
use lib.Dec.{ltb}
use Rattle.theory.specs.Below.{some}
use Rattle.grammar.specs.Flat.{at}
use Rattle.grammar.proofs.starts_fall.Given as goal

abbrev pub invariant-loop-p : goal.invariant-loop-p
invariant-loop-p l = l.falls ≡ some l.p (λ k. ltb (at l.starts (k + 1)) (at l.starts k))
