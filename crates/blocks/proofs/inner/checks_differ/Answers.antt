use Rattle.std.proofs.Common.{rules}
use borrow.Author.Tests.{tests}
use Rattle.blocks.specs.Refusals.{check_differs, checks_differ}
use Rattle.blocks.proofs.Chains.{any_below}
use mathlib.Core.Path.{refl}
use Rattle.blocks.proofs.inner.checks_differ.Goals as goal

pub returns : goal.returns
unfolding checks_differ
returns c = any_below (λ b. check_differs c.args.file.now b) _ _ _ _ c.any.ensures.ran (λ x b q k. search (rules, tests)) refl
