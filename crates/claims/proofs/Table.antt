-- Document 01's starred lines, and those of the change requests, proved together.
use mathlib.Core.Path.{refl}
use Rattle.theory.specs.Below.{some}
use Rattle.theory.specs.Clashes.{row_of}
use Rattle.grammar.specs.Refusals.{sizes_out, falls, starts_wrong, owner_out, owns, rule_unowned, symbol_out, symbols_out, one_rule, start_long, start_held, start_wrong, unless_due}
use Rattle.claims.specs.Claims.{AllMean, starred, repeats, requested}
use Rattle.claims.proofs.Decided.{all_decided}

pub table : AllMean starred
unfolding some sizes_out falls starts_wrong owner_out owns rule_unowned symbol_out symbols_out one_rule start_long start_held start_wrong unless_due
table = all_decided starred refl

-- and what it says of the Rust on G1
pub again : AllMean repeats
unfolding some sizes_out falls starts_wrong owner_out owns rule_unowned symbol_out symbols_out one_rule start_long start_held start_wrong unless_due
again = all_decided repeats refl

-- and of the change requests
pub asked : AllMean requested
unfolding some row_of sizes_out falls starts_wrong owner_out owns rule_unowned symbol_out symbols_out one_rule start_long start_held start_wrong unless_due
asked = all_decided requested refl
