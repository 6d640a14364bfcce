-- What a line says of its rule, by document 01's definitions.
use Rattle.std.specs.Prelude.{true, ◌↔◌, ◌≡◌, ℕ, ◌≤◌, ◌<◌}
use mathlib.Core.List.{List, Memᴰ}
use Rattle.theory.specs.Definitions.{First, Empty, Sentence, cost_of, Productive, Cost}
use Rattle.theory.specs.Entries.{cost_max}
use Rattle.theory.specs.Follow.{Follow}
use Rattle.grammar.specs.Flat.{Flat, denoted, price}
use Rattle.firsts.specs.Calls.{Defined as FirstDefined}
use Rattle.engine.specs.First.{lent as firsts}
use Rattle.follows.specs.Calls.{Defined as FollowDefined}
use Rattle.costs.specs.Defined.{CostDefined}
use Rattle.lines.specs.Text.{Rising}
use Rattle.lines.specs.Line.{amount, none, dear, Entry}
use Rattle.lines.specs.Lent.{Tables}

-- the defined tables, which the fills leave
pub record Defined (g : Flat) (l : Tables) : Type 0 where
  pub read : FirstDefined g (firsts l.first l.empty)
  pub follow : FollowDefined g l.follow
  pub cost : CostDefined g l.cost

-- no sentence of rule r costs 65535 or less
abbrev pub AllDear : Flat → ℕ → Type 0
AllDear g r = (w : List ℕ) → Sentence (denoted g) r w → cost_max < cost_of (price g) w

-- the fields are rule r's number, EMPTY, FIRST, FOLLOW and COST; `none` exactly if it has no sentence, `dear` exactly if it has one but none costs 65535 or less
pub record Says (g : Flat) (r : ℕ) (e : Entry) : Type 0 where
  pub number : e.number ≡ r
  pub empty : Empty (denoted g) r ↔ (e.empty ≡ true)
  pub first : (t : ℕ) → First (denoted g) r t ↔ Memᴰ t e.first
  pub first_rises : Rising e.first
  pub follow : (t : ℕ) → Follow (denoted g) r t ↔ Memᴰ t e.follow
  pub follow_rises : Rising e.follow
  pub is_amount : (n : ℕ) → ((n ≤ cost_max) × Cost (denoted g) (price g) r n) ↔ (e.cost ≡ amount n)
  pub is_none : (Productive (denoted g) r → ⊥) ↔ (e.cost ≡ none)
  pub is_dear : (Productive (denoted g) r × AllDear g r) ↔ (e.cost ≡ dear)
