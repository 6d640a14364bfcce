-- The grammar as it is lent, and answers as they are returned.
use Rattle.std.specs.Prelude.{Result, Ok, Err}
use Rattle.grammar.specs.Flat.{Flat, flat}
use Rattle.grammar.specs.Outcome.{Outcome, answers, refused}
use Rattle.grammar.specs.Number.{number_of}
use Rattle.grammar.specs.declared.lists.Grammar.{Grammar}
use Rattle.grammar.specs.declared.refusal.Refusal.{Refusal}

-- the flat grammar that stands in the lists lent
abbrev pub flat_of : Grammar → Flat
flat_of g = flat g.rules g.owners.now g.starts.now g.symbols.now g.costs.now

-- what a call comes to, from what it returns: its answer, or the number of the refusal
abbrev pub outcome_of : {A : Type 0} → Result A Refusal → Outcome A
outcome_of (Ok x) = answers x
outcome_of (Err e) = refused (number_of e)
