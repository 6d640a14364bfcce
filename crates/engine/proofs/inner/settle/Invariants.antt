use mathlib.Core.Bool.{true}
use mathlib.Core.Path.{◌≡◌}
use Prim.Native.Nat.{ℕ, ◌<◌}
use lib.ListN.{length}
use Rattle.grammar.specs.Lent.{flat_of}
use Rattle.engine.specs.First.{lent}
use Rattle.engine.specs.Kinds.{kind_view, Served}
use Rattle.engine.proofs.Rounding.{Settle, left_of}
use Rattle.engine.proofs.inner.settle.Given as goal

abbrev pub invariant-loop-more : goal.invariant-loop-more
invariant-loop-more g l =
    Settle (g.T.Table.kind l.kind) (flat_of l.g) (lent l.initial.table l.initial.row) l.more (lent l.table l.row)
    × (l.again ≡ true → (p : ℕ) → p < length l.g.owners.now → Served (g.T.Table.kind l.kind) (flat_of l.g) p (kind_view (g.T.Table.kind l.kind) (flat_of l.g) (lent l.table l.row)))

abbrev pub decreases-loop-more : goal.decreases-loop-more
decreases-loop-more g l =
    left_of (g.T.Table.kind l.kind) l.g.rules (length l.g.costs.now) (lent l.table l.row) l.more
