use Rattle.std.proofs.Common.{rules}
use borrow.Author.Tests.{tests}
use native.Mathlib.Omega.{arith}
use lib.Dec.{eqb}
use Rattle.blocks.specs.Layout.{payload}
use Rattle.blocks.proofs.Chains.{any_range}
use Rattle.blocks.proofs.inner.zero_held.Goals as goal

pub returns : goal.returns
returns c = any_range (λ i. eqb (payload c.args.file.now i) 0) _ _ _ _ c.any.ensures.ran (λ x b q k. search (rules, tests)) c.args.n (omega arith)
