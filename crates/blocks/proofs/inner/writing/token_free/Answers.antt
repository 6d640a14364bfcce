use borrow.Author.Rules.{rules}
use Rattle.blocks.proofs.Steps.{free_other, free_are}
use Rattle.blocks.proofs.Chains.{any_front}
use native.Mathlib.Omega.{arith}
use mathlib.Core.Path.{◌∙◌}
use Prim.Native.Nat.{◌-◌}
use lib.Dec.{eqb}
use lib.ListN.{length}
use Rattle.blocks.proofs.inner.writing.token_free.Goals as goal

pub returns-then-version-ne2 : goal.returns-then-version-ne2
returns-then-version-ne2 c = search (rules, free_other)

pub returns : goal.returns
returns c = free_are c.args.version c.args.costs.now c.if-version-ne2.false _ (c.contains.ensures.value ∙ any_front (λ y. eqb y 0) (length c.args.costs.now - 1) c.args.costs.now (omega arith))
