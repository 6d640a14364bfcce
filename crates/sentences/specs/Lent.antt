-- First choices and lengths as lent numbers.
use Rattle.std.specs.Prelude.{List, ℕ, ltb, get_or}
use Rattle.theory.specs.Entries.{length_none}
use Rattle.theory.specs.Levels.{Choices}
use Rattle.theory.specs.Visits.{Costs}

-- first choices: a production's number for each rule, 4096 for none
unfoldable pub choices_of : List ℕ → Choices
choices_of ws = record { has = λ r. ltb (get_or ws r 4096) 4096; prod = λ r. get_or ws r 4096 }

-- lengths: a number for each rule, 65537 for none known; none is known outside the rules
unfoldable pub lengths_of : List ℕ → Costs
lengths_of ws = λ r. get_or ws r length_none
