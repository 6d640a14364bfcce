-- What `any` answers, by what the closure says of a word.
use mathlib.Core.Path.{◌≡◌, refl}
use native.Mathlib.Omega.{arith}
use borrow.Author.Rules.{rules}
use borrow.Author.Tests.{tests}
use Rattle.std.proofs.lemmas.Iterator.{YieldsList-from_range, cases_from_any}
use Rattle.rows.proofs.Meet.{word, meet}
use Rattle.rows.proofs.inner.meets.Goals as goal

pub returns : goal.returns
returns c =
    let w = word c.args.width c.args.one.now c.args.a c.args.other.now c.args.b in
    meet _ _ _ _ _ (λ k. (c.type_inv.one k).fits) c.any.result
    (cases_from_any _ _ _ (λ i. w i ≡ 0 → ⊥) (λ i. w i ≡ 0) c.any.ensures.ran (YieldsList-from_range 0 c.args.width _ refl (omega arith)) (λ x q k. search (rules, tests)) (λ x q k. search (rules, tests)))
