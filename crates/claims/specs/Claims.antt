-- Claims about grammars, and what each means by the definitions.
use Rattle.std.specs.Prelude.{Bool, true, false, ◌↔◌, ◌≡◌, ℕ, ◌≤◌, ◌<◌, length}
use mathlib.Core.List.{List, [], ◌∷◌, Memᴰ}
use Rattle.theory.specs.Entries.{cost_max}
use Rattle.theory.specs.Definitions.{First, Productive, Cost, Path, Reached}
use Rattle.theory.specs.Dearer.{GoesUp}
use Rattle.theory.specs.Follow.{Follow, Stands}
use Rattle.theory.specs.Grammar.{rul}
use Rattle.theory.specs.Profile.{Verdict, passes, clashes, Judged}
use Rattle.theory.specs.Rounds.{run}
use Rattle.theory.specs.Sentences.{Grounded, Expands}
use Rattle.theory.specs.Tables.{CostExact}
use Rattle.theory.specs.Visits.{Costs, first_visit, first_cleared}
use Rattle.source.specs.Costs.{start, Returns}
use Rattle.source.specs.Sentence as Sentence
use Rattle.grammar.specs.Flat.{Flat, denoted, price}
use Rattle.grammar.specs.Well.{WellFormed}
use Rattle.claims.specs.Grammars.{g1, g2, g3, g4, g6, dead, exports, vanishing, several, crossed, pricey, pricier}

-- a set is given by its tokens; `by` names the rules between, as a hint to the test
pub data Claim : Type 0 where
  first_is : Flat → (r : ℕ) → (tokens : List ℕ) → Claim
  follow_is : Flat → (r : ℕ) → (tokens : List ℕ) → Claim
  marks_are : Flat → (visits : List ℕ) → (r : ℕ) → (tokens : List ℕ) → (empty : Bool) → Claim
  cost_is : Flat → (r n : ℕ) → Claim
  no_sentence : Flat → (r : ℕ) → Claim
  circular : Flat → (r : ℕ) → Claim
  sentence_is : Flat → (r : ℕ) → (w : List ℕ) → Claim
  path : Flat → (a : ℕ) → (by : List ℕ) → (b : ℕ) → Claim
  no_path : Flat → (a b : ℕ) → Claim
  reached_are : Flat → (rules : List ℕ) → Claim
  stands_are : Flat → (r : ℕ) → (tokens : List ℕ) → Claim
  dearer_upto : Flat → (t d r n : ℕ) → Claim
  judged : Flat → Verdict → Claim
  source_never : Flat → Claim
  source_gives : Flat → (r n : ℕ) → (w : List ℕ) → Claim

-- the grammar that a claim speaks of
abbrev pub grammar_of : Claim → Flat
grammar_of (first_is g r ts) = g
grammar_of (follow_is g r ts) = g
grammar_of (marks_are g v r ts e) = g
grammar_of (cost_is g r n) = g
grammar_of (no_sentence g r) = g
grammar_of (circular g r) = g
grammar_of (sentence_is g r w) = g
grammar_of (path g a by b) = g
grammar_of (no_path g a b) = g
grammar_of (reached_are g rs) = g
grammar_of (stands_are g r ts) = g
grammar_of (dearer_upto g t d r n) = g
grammar_of (judged g v) = g
grammar_of (source_never g) = g
grammar_of (source_gives g r n w) = g

-- what each says of its grammar
abbrev pub Says : Claim → Type 0
-- FIRST(r) is the set
Says (first_is g r ts) = (t : ℕ) → t < length g.costs → First (denoted g) r t ↔ Memᴰ t ts
-- FOLLOW(r) is the set
Says (follow_is g r ts) = (t : ℕ) → t < length g.costs → Follow (denoted g) r t ↔ Memᴰ t ts
-- after these FIRST visits from cleared tables r has these FIRST marks, and this EMPTY mark
Says (marks_are g v r ts e) = ((t : ℕ) → t < length g.costs → ((run (first_visit (denoted g)) v first_cleared).first r t ≡ true) ↔ Memᴰ t ts) × ((run (first_visit (denoted g)) v first_cleared).empty r ≡ e)
-- COST(r) is n
Says (cost_is g r n) = Cost (denoted g) (price g) r n
-- r has no sentence: it gets 12
Says (no_sentence g r) = Productive (denoted g) r → ⊥
-- r has a cost and, with the COST table, is not grounded: it gets 14
Says (circular g r) = (c : Costs) × CostExact (denoted g) (price g) c × (c r ≤ cost_max) × (Grounded (denoted g) (price g) c (rul r ∷ []) → ⊥)
-- with the COST table r's sentence is w
Says (sentence_is g r w) = (c : Costs) × CostExact (denoted g) (price g) c × Expands (denoted g) (price g) c (rul r ∷ []) w
-- a path from a to b, and none
Says (path g a by b) = Path (denoted g) a b
Says (no_path g a b) = Path (denoted g) a b → ⊥
-- the reached rules are these
Says (reached_are g rs) = (r : ℕ) → r < g.rules → Reached (denoted g) r ↔ Memᴰ r rs
-- the tokens t for which r t stands in a form derived from `start eof` are these
Says (stands_are g r ts) = (t : ℕ) → t < length g.costs → Stands (denoted g) r t ↔ Memᴰ t ts
-- where token t costs d more, COST(r) is at most n: what d times its occurrences in the rule's sentence add
Says (dearer_upto g t d r n) = (k : ℕ → ℕ) → GoesUp (price g) t d k → (c : ℕ) → Cost (denoted g) k r c → c ≤ n
-- the profile's verdict
Says (judged g v) = Judged (denoted g) v
-- the Rust's `rule_min_costs` never returns
Says (source_never g) = (c : Costs) → Returns (denoted g) (price g) start c → ⊥
-- the Rust's `rule_min_costs` returns, with n for r, and its `min_sentence` of r returns w
Says (source_gives g r n w) = (c : Costs) × Returns (denoted g) (price g) start c × (c r ≡ n) × Sentence.Returns (denoted g) (price g) c r w

-- what each means: its grammar is well-formed, and what it says holds
abbrev pub Means : Claim → Type 0
Means c = WellFormed (grammar_of c) × Says c

abbrev pub AllMean : List Claim → Type 0
AllMean [] = Unit {0}
AllMean (c ∷ cs) = Means c × AllMean cs

-- document 01's starred lines
abbrev pub starred : List Claim
starred =
    first_is g1 1 (0 ∷ 2 ∷ [])
    ∷ follow_is g1 2 (0 ∷ [])
    ∷ cost_is g1 1 1
    ∷ sentence_is g1 0 (0 ∷ [])
    ∷ marks_are g1 (5 ∷ 0 ∷ 1 ∷ 2 ∷ 3 ∷ 4 ∷ []) 1 [] false
    ∷ marks_are g1 (5 ∷ 0 ∷ 1 ∷ 2 ∷ 3 ∷ 4 ∷ 5 ∷ 0 ∷ 1 ∷ 2 ∷ 3 ∷ 4 ∷ []) 1 (0 ∷ 2 ∷ []) false
    ∷ follow_is g2 2 (1 ∷ 2 ∷ [])
    ∷ cost_is g3 1 1
    ∷ source_never g3
    ∷ circular g3 1
    ∷ path g3 1 [] 1
    ∷ no_path g3 0 0
    ∷ first_is g4 1 []
    ∷ no_sentence g4 1
    ∷ cost_is g6 1 1
    ∷ sentence_is g6 1 (1 ∷ [])
    ∷ source_gives g6 1 1 (1 ∷ [])
    ∷ []

-- what it says of G1's start beside them: the Rust gives 0 0
abbrev pub repeats : List Claim
repeats = source_gives g1 0 1 (0 ∷ 0 ∷ []) ∷ []

-- of the change requests: L2, z does not stand after A; L7, both exports are followed by eof, and the start has the cheaper one's sentence; L12, a cost that rises by the whole bound, and one that rises by less; L8, who passes, and the least clash: T where two vanish and share none, FOLLOW of the owner added, productions 0 and 5 before 1 and 2
abbrev pub requested : List Claim
requested =
    reached_are dead (0 ∷ 1 ∷ 2 ∷ [])
    ∷ follow_is dead 2 (2 ∷ [])
    ∷ stands_are dead 2 (2 ∷ [])
    ∷ follow_is dead 3 []
    ∷ stands_are g2 2 (1 ∷ 2 ∷ [])
    ∷ reached_are exports (0 ∷ 1 ∷ 2 ∷ [])
    ∷ stands_are exports 2 (2 ∷ [])
    ∷ first_is exports 0 (0 ∷ [])
    ∷ follow_is exports 1 (2 ∷ [])
    ∷ follow_is exports 2 (2 ∷ [])
    ∷ cost_is exports 0 1
    ∷ cost_is exports 2 2
    ∷ sentence_is exports 0 (0 ∷ [])
    ∷ path exports 0 [] 2
    ∷ cost_is pricey 1 761
    ∷ cost_is pricier 1 763
    ∷ dearer_upto pricey 0 1 1 763
    ∷ cost_is pricey 2 762
    ∷ cost_is pricier 2 763
    ∷ dearer_upto pricey 0 1 2 765
    ∷ judged g1 passes
    ∷ judged g2 passes
    ∷ judged g3 (clashes 1 1 2 0)
    ∷ judged g4 passes
    ∷ judged g6 passes
    ∷ judged dead passes
    ∷ judged exports (clashes 0 0 3 0)
    ∷ judged vanishing (clashes 2 2 3 2)
    ∷ judged several (clashes 2 2 3 0)
    ∷ judged crossed (clashes 1 0 5 0)
    ∷ []
