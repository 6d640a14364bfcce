use Rattle.std.proofs.Common.{◌≡◌, ◌&&◌, subst, arith, rules, ltb}
use Rattle.theory.specs.Below.{FirstBelow}
use Rattle.theory.proofs.Below.{scan_found, scan_on, scan_none}
use Rattle.theory.proofs.Bools.{and_told}
use Rattle.rows.specs.Marks.{mark}
use Rattle.profiles.specs.Rows.{row_words}
use Rattle.profiles.proofs.inner.least_shared.Goals as goal

pub loop-t-init : goal.loop-t-init
loop-t-init c = record { below = search rules; none = λ k l. absurd (omega (arith, l)) }

pub returns-then-is_set : goal.returns-then-is_set
returns-then-is_set c = record { upto = search rules; first = scan_found _ _ _ c.loop-t.invariant c.loop-t-test.true (and_told c.is_set.ensures c.is_set-in-loop-t.ensures c.if-is_set.true) }

pub loop-t-preserved : goal.loop-t-preserved
loop-t-preserved c = scan_on _ _ _ c.loop-t.invariant c.loop-t-test.true (and_told c.is_set.ensures c.is_set-in-loop-t.ensures c.if-is_set.false)

pub returns : goal.returns
returns c =
    let q : c.loop-t.t ≡ c.args.tokens = omega (arith, c.loop-t.invariant.below) in
    record {
      upto = search rules;
      first = subst (λ z. FirstBelow (λ t. mark row_words c.args.one.now 0 t && mark row_words c.args.other.now 0 t) c.args.tokens (ltb z c.args.tokens) z) q (scan_none _ _ _ c.loop-t.invariant c.loop-t-test.false);
    }
