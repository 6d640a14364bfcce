use mathlib.Core.Path.{refl}
use Rattle.grammar.proofs.Outcomes.{passed_on}
use Rattle.blocks.proofs.Storing.{known, rules_high, tokens_low, stored, few, end_short, write_26, write_refused, write_25, write_24, write_does}
use native.Mathlib.Omega.{arith}
use borrow.Author.Rules.{rules}
use Rattle.blocks.proofs.write.Goals as goal

pub returns-then-version_wrong : goal.returns-then-version_wrong
returns-then-version_wrong c = search (rules, write_26)

pub returns-in_err-check : goal.returns-in_err-check
returns-in_err-check c = rw (passed_on c.from_residual.ensures) (write_refused _ _ _ _ c.version_wrong.ensures c.if-version_wrong.false _ c.in_err-check.ensures _ refl)

pub token_free-requires : goal.token_free-requires
token_free-requires c = tokens_low _ _ c.in_ok-check.ensures refl

pub returns-then-token_free : goal.returns-then-token_free
returns-then-token_free c = write_25 _ _ _ _ c.version_wrong.ensures c.if-version_wrong.false _ c.in_ok-check.ensures refl _ c.token_free.ensures c.if-token_free.true

pub blocks_due-n-requires : goal.blocks_due-n-requires
blocks_due-n-requires c = let s = stored _ _ c.in_ok-check.ensures refl 0 in (s.prods, omega (arith, s.ends, s.prods), s.held, s.tokens)

pub overflow_mul-n : goal.overflow_mul-n
overflow_mul-n c = omega (arith, few _ (stored _ _ c.in_ok-check.ensures refl 0) _ c.blocks_due-n.ensures)

pub returns-then-out-n : goal.returns-then-out-n
returns-then-out-n c = write_24 _ _ _ _ c.version_wrong.ensures c.if-version_wrong.false _ c.in_ok-check.ensures refl _ c.token_free.ensures c.if-token_free.false _ c.blocks_due-n.ensures c.if-out-n.true

pub field-requires : goal.field-requires
field-requires c = let q = known _ _ c.version_wrong.ensures c.if-version_wrong.false in (q.low, q.high, rules_high _ _ c.in_ok-check.ensures refl)

pub put_blocks-end-requires : goal.put_blocks-end-requires
put_blocks-end-requires c = let s = stored _ _ c.in_ok-check.ensures refl _ in record { stored = s; room = (few _ s _ c.blocks_due-n.ensures, omega arith) }

pub short-requires : goal.short-requires
short-requires c = end_short _ (stored _ _ c.in_ok-check.ensures refl _) _ c.blocks_due-n.ensures _ _ _ c.put_blocks-end.ensures

pub returns : goal.returns
returns c = write_does _ _ _ _ c.version_wrong.ensures c.if-version_wrong.false _ c.in_ok-check.ensures refl _ c.token_free.ensures c.if-token_free.false _ c.blocks_due-n.ensures _ c.field.ensures c.if-out-n.false _ _ c.put_blocks-end.ensures _ c.short.ensures
