-- The house grammar is well formed: computed once, over the whole table.
use mathlib.Core.Path.{◌≡◌, refl}
use Rattle.theory.specs.Below.{some}
use Rattle.grammar.specs.Outcome.{answers}
use Rattle.grammar.specs.Production.{check_of}
use Rattle.grammar.specs.Refusals.{sizes_out, falls, starts_wrong, owner_out, owns, rule_unowned, symbol_out, symbols_out, one_rule, start_long, start_held, start_wrong, unless_due}
use Rattle.grammar.specs.Well.{WellFormed}
use Rattle.grammar.proofs.Well.{well}
use Rattle.house.specs.Table.{owners, starts, symbols, costs, house}

pub none_due : check_of house ≡ answers tt
unfolding owners starts symbols costs some sizes_out falls starts_wrong owner_out owns rule_unowned symbol_out symbols_out one_rule start_long start_held start_wrong unless_due
none_due = refl

-- so each entry is as it should be
pub formed : WellFormed house
formed = well house none_due
