use Rattle.std.proofs.Common.{rules}
use borrow.Author.Tests.{tests}
use mathlib.Core.Bool.{not}
use mathlib.Core.Path.{refl}
use lib.Dec.{eqb}
use Rattle.blocks.specs.Layout.{payload}
use Rattle.blocks.specs.Refusals.{spare_used}
use Rattle.blocks.proofs.Chains.{any_range}
use Rattle.blocks.proofs.inner.spare_used.Goals as goal

pub returns : goal.returns
unfolding spare_used
returns c = any_range (λ i. not (eqb (payload c.args.file.now i) 0)) _ _ _ _ c.any.ensures.ran (λ x b q k. search (rules, tests)) _ refl
