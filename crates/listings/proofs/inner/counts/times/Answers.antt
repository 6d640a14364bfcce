use native.Mathlib.Nat.{mul-le-mul}
use native.Mathlib.Omega.{arith}
use Rattle.listings.proofs.Counting.{times_short, times_long}
use borrow.Author.Rules.{rules}
use Rattle.listings.proofs.inner.counts.times.Goals as goal

pub overflow_mul-product : goal.overflow_mul-product
overflow_mul-product c = omega (arith, mul-le-mul {n₁ = c.args.n} {m₁ = c.args.x} {n₂ = 65536} {m₂ = 65536} c.requires.0 c.requires.1)

pub overflow_cast-result : goal.overflow_cast-result
overflow_cast-result c = omega (arith, c.if-product.true)

pub returns-then-product : goal.returns-then-product
returns-then-product c = search (rules, times_short)

pub returns : goal.returns
returns c = search (rules, times_long)
