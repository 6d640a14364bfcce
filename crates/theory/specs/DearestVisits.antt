-- How the dearest costs are found: entries that rise from 0; beyond R rounds any rise goes to no bound.
use Rattle.std.specs.Prelude.{Bool, cond, [], ◌∷◌, ℕ, zero, suc, ◌+◌, min, max, eqb, leb, ltb}
use Rattle.theory.specs.Entries.{dearest_max, dearest_unbounded, dearest_none, dearest_above}
use Rattle.theory.specs.Grammar.{Sym, tok, rul, Form, Grammar}
use Rattle.theory.specs.Visits.{Costs}

-- while they are found, an entry is 0 for none known, 1 more than a cost up to 65534, more than that for a cost above, and this for no bound
abbrev pub no_bound : ℕ
no_bound = 16777216

-- two entries added up: none known if one is not; the sum of the costs, or one more than the larger of them and of 65534, whichever is less
abbrev pub add_up : ℕ → ℕ → ℕ
add_up zero y = 0
add_up (suc v) zero = 0
add_up (suc v) (suc u) = suc (min (v + u) (max (max v u) dearest_max + 1))

-- a symbol's part in a sum: a token one more than its cost, a rule its entry
abbrev pub sym_dearest : (ℕ → ℕ) → Costs → Sym → ℕ
sym_dearest k c (tok t) = suc (k t)
sym_dearest k c (rul r) = c r

-- the sum of a production by a way to add, from the right
abbrev pub form_dearest : (ℕ → ℕ → ℕ) → (ℕ → ℕ) → Costs → Form → ℕ
form_dearest op k c [] = 1
form_dearest op k c (x ∷ α) = op (sym_dearest k c x) (form_dearest op k c α)

-- an entry that the sum exceeds becomes the sum, or beyond R rounds no bound
abbrev pub lifted : Bool → ℕ → ℕ → ℕ
lifted beyond n s = cond (ltb n s) (cond beyond no_bound s) n

-- one production's visit
abbrev pub dearest_visit : Grammar → (ℕ → ℕ) → Bool → ℕ → Costs → Costs
dearest_visit g k beyond p c = λ r. cond (eqb r (g.owner p)) (lifted beyond (c r) (min (form_dearest add_up k c (g.body p)) no_bound)) (c r)

-- cleared: none known
abbrev pub dearest_cleared : Costs
dearest_cleared = λ r. 0

-- what an entry is in the table at the end
abbrev pub ends_as : ℕ → ℕ
ends_as zero = dearest_none
ends_as (suc v) = cond (leb v dearest_max) v (cond (leb no_bound (suc v)) dearest_unbounded dearest_above)
