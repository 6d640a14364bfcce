use mathlib.Core.Path.{refl}
use Prim.Native.Nat.{◌*◌, ◌/◌}
use native.Mathlib.Omega.{arith}
use Rattle.rows.proofs.Join.{join_as, join_end, join_word, join_last, from_bits}
use Rattle.rows.proofs.inner.join_from.Goals as goal

pub loop-i-preserved : goal.loop-i-preserved
loop-i-preserved c = join_word _ _ _ _ _ c.requires.fits _ _ (omega (arith, c.requires.to, c.loop-i.invariant.raised.long)) _ _ c.loop-i.new _ c.loop-i.invariant (c.type_inv.other _).fits (λ t lt. from_bits _ _ _ _ t) c.loop-i-test.true c.join_word-new.ensures

pub returns-then-whole-tokens : goal.returns-then-whole-tokens
returns-then-whole-tokens c = let j = join_as {n = c.args.tokens / 32 * 32} (omega (arith, c.loop-i-test.false)) c.loop-i.invariant in join_end _ _ _ _ _ _ _ _ (join_last _ _ _ _ _ c.requires.fits _ _ (omega (arith, c.requires.to, c.loop-i.invariant.raised.long)) _ _ c.loop-i.new _ j (c.type_inv.other _).fits (λ t lt. from_bits _ _ _ _ t) refl c.if-whole-tokens.true _ c.low_bits-word.ensures c.join_word.ensures) (omega arith)
