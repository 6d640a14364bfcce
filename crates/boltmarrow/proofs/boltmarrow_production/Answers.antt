use native.Mathlib.Omega.{arith}
use Rattle.boltmarrow.proofs.Produced.{start_in, length_fits, stretch_found, stretch_refused}
use Rattle.boltmarrow.proofs.boltmarrow_production.Goals as goal

pub start_at-requires : goal.start_at-requires
start_at-requires c = start_in _ _ _ _ _ _ _ c.in-Ok.ensures _ c.from.ensures

pub overflow_cast-result-in-Ok : goal.overflow_cast-result-in-Ok
overflow_cast-result-in-Ok c = omega (arith, length_fits _ _ _ _ _ _ _ c.in-Ok.ensures)

pub returns-in-Ok : goal.returns-in-Ok
returns-in-Ok c = stretch_found _ _ _ _ _ _ _ c.in-Ok.ensures _ _ c.from.ensures c.start_at.ensures.0

pub returns-in-Err : goal.returns-in-Err
returns-in-Err c = stretch_refused _ _ _ _ _ _ _ _ c.in-Err.ensures c.number.ensures
