use Rattle.std.proofs.Common.{rules}
use borrow.Author.Tests.{tests}
use mathlib.Core.Bool.{not}
use mathlib.Core.Path.{refl}
use lib.Dec.{eqb}
use Rattle.blocks.specs.Layout.{block_number}
use Rattle.blocks.specs.Refusals.{numbers_differ}
use Rattle.blocks.proofs.Chains.{any_below}
use Rattle.blocks.proofs.inner.numbers_differ.Goals as goal

pub returns : goal.returns
unfolding numbers_differ
returns c = any_below (λ b. not (eqb (block_number c.args.file.now b) b)) _ _ _ _ c.any.ensures.ran (λ x b q k. search (rules, tests)) refl
