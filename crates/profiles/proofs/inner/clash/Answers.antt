use native.Mathlib.Omega.{arith}
use Rattle.profiles.proofs.Judging.{rule_fits, lower_rows, lower_fits, higher_rows, higher_fits, token_fits, clash_is}
use Rattle.profiles.proofs.inner.clash.Goals as goal

pub higher-q-requires : goal.higher-q-requires
higher-q-requires c = lower_rows _ _ _ _ _ c.requires

pub shared-t-requires : goal.shared-t-requires
shared-t-requires c = (lower_rows _ _ _ _ _ c.requires, higher_rows _ _ _ _ _ c.requires _ c.higher-q.ensures)

pub overflow_cast-result : goal.overflow_cast-result
overflow_cast-result c = omega (arith, rule_fits _ _ _ _ _ c.requires)

pub overflow_cast-result-2 : goal.overflow_cast-result-2
overflow_cast-result-2 c = omega (arith, lower_fits _ _ _ _ _ c.requires)

pub overflow_cast-result-3 : goal.overflow_cast-result-3
overflow_cast-result-3 c = omega (arith, higher_fits _ _ _ _ _ c.requires _ c.higher-q.ensures)

pub overflow_cast-result-4 : goal.overflow_cast-result-4
overflow_cast-result-4 c = omega (arith, token_fits _ _ _ _ _ c.requires _ c.higher-q.ensures _ c.shared-t.ensures)

pub returns : goal.returns
returns c = clash_is _ _ _ _ _ c.requires _ c.higher-q.ensures _ c.shared-t.ensures
