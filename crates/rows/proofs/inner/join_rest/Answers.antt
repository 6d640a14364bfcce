use mathlib.Core.Path.{refl}
use Prim.Native.Nat.{◌*◌, ◌/◌}
use native.Mathlib.Omega.{arith}
use borrow.Author.Rules.{rules}
use Rattle.rows.proofs.Join.{join_as, join_past, join_word, join_last, own_bits}
use Rattle.rows.proofs.inner.join_rest.Goals as goal

pub loop-i-preserved : goal.loop-i-preserved
loop-i-preserved c = (search rules, λ ws j. let h = c.loop-i.invariant.1 ws j in join_word _ _ _ _ _ c.requires.fits _ _ (omega (arith, c.requires.to, c.loop-i.invariant.0)) _ _ c.loop-i.all _ h (h.raised.small _) (own_bits _ _ _ _ _ _ _ _ _ _ c.requires.fits h (omega arith)) c.loop-i-test.true c.join_word-all.ensures)

pub returns-then-whole-tokens : goal.returns-then-whole-tokens
returns-then-whole-tokens c = λ ws j. let h = join_as {n = c.args.tokens / 32 * 32} (omega (arith, c.loop-i-test.false)) (c.loop-i.invariant.1 ws j) in join_past _ _ _ _ _ _ _ _ _ (join_last _ _ _ _ _ c.requires.fits _ _ (omega (arith, c.requires.to, c.loop-i.invariant.0)) _ _ c.loop-i.all _ h (h.raised.small _) (own_bits _ _ _ _ _ _ _ _ _ _ c.requires.fits h (omega arith)) refl c.if-whole-tokens.true _ c.low_bits-word.ensures c.join_word.ensures) (omega arith) (omega arith)
