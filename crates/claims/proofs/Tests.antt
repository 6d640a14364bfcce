-- The test of a claim: tables filled by enough rounds, and looked up.
use mathlib.Core.Bool.{Bool, true, false, not, ◌&&◌, ◌||◌}
use mathlib.Core.List.{List, [], ◌∷◌}
use mathlib.Core.Option.{Option, none, some}
use Prim.Native.Nat.{ℕ, zero, suc, ◌+◌, ◌*◌}
use lib.Dec.{eqb, leb}
use lib.ListN.{length, replicate}
use Rattle.theory.specs.Dearer.{occurs}
use Rattle.theory.specs.Clashes.{verdict_by}
use Rattle.theory.specs.Grammar.{Grammar}
use Rattle.theory.specs.Levels.{Choices, choices_below, within, expanded}
use Rattle.theory.specs.Profile.{Verdict, passes, clashes}
use Rattle.theory.specs.Rounds.{run, rounds}
use Rattle.theory.specs.Visits.{Table, Row, Costs, Marks, first_visit, first_cleared, follow_visit, follow_cleared, among, reached_visit, reached_begun, productive_visit, productive_cleared, cost_visit, cost_cleared}
use Rattle.theory.proofs.Bools.{same}
use Rattle.theory.proofs.Rounds.{upto}
use Rattle.source.specs.Costs.{start}
use Rattle.source.proofs.Running.{stuck_in, costs_in, sentence_in}
use Rattle.grammar.specs.Flat.{Flat, denoted, price}
use Rattle.grammar.specs.Outcome.{Outcome, answers, refused}
use Rattle.grammar.specs.Production.{check_of}
use Rattle.claims.specs.Claims.{Claim, first_is, follow_is, marks_are, cost_is, no_sentence, circular, sentence_is, path, no_path, reached_are, stands_are, dearer_upto, judged, source_never, source_gives, grammar_of}

abbrev pub is_answer : {A : Type 0} → Outcome A → Bool
is_answer (answers x) = true
is_answer (refused n) = false

-- n rounds in rising order
abbrev pub many : Grammar → ℕ → List (List ℕ)
many d n = replicate n (upto d.prods)

abbrev pub first_filled : Grammar → Marks
first_filled d = rounds (first_visit d) (many d (d.rules * d.tokens)) first_cleared

abbrev pub reached_filled : Grammar → Row
reached_filled d = rounds (reached_visit d) (many d d.rules) reached_begun

abbrev pub follow_filled : Grammar → Table
follow_filled d = rounds (follow_visit d (first_filled d) (reached_filled d)) (many d (d.rules * d.tokens)) (follow_cleared d)

abbrev pub productive_filled : Grammar → Row
productive_filled d = rounds (productive_visit d) (many d d.rules) productive_cleared

abbrev pub cost_filled : Grammar → (ℕ → ℕ) → Costs
cost_filled d k = rounds (cost_visit d k) (many d d.rules) cost_cleared

abbrev pub chosen : Grammar → (ℕ → ℕ) → Choices
chosen d k = choices_below d k (cost_filled d k) d.prods

-- a number in a list, and lists and verdicts that are the same
abbrev pub holds : ℕ → List ℕ → Bool
holds t [] = false
holds t (s ∷ ts) = eqb t s || holds t ts

abbrev pub same_list : List ℕ → List ℕ → Bool
same_list [] [] = true
same_list [] (y ∷ ys) = false
same_list (x ∷ xs) [] = false
same_list (x ∷ xs) (y ∷ ys) = eqb x y && same_list xs ys

abbrev pub same_verdict : Verdict → Verdict → Bool
same_verdict passes passes = true
same_verdict passes (clashes r p q t) = false
same_verdict (clashes r p q t) passes = false
same_verdict (clashes r p q t) (clashes r' p' q' t') = (eqb r r' && eqb p p') && (eqb q q' && eqb t t')

-- the same below n
abbrev pub agree : ℕ → (ℕ → Bool) → List ℕ → Bool
agree zero f ts = true
agree (suc n) f ts = same (f n) (holds n ts) && agree n f ts

-- a production of a holds b; each of the rules leads to the next
abbrev pub uses : Grammar → ℕ → (a b : ℕ) → Bool
uses d zero a b = false
uses d (suc p) a b = (eqb (d.owner p) a && among (d.body p) b) || uses d p a b

abbrev pub leads : Grammar → (a : ℕ) → List ℕ → (b : ℕ) → Bool
leads d a [] b = uses d d.prods a b
leads d a (c ∷ by) b = uses d d.prods a c && leads d c by b

-- no production holds b
abbrev pub unused : Grammar → ℕ → (b : ℕ) → Bool
unused d zero b = true
unused d (suc p) b = not (among (d.body p) b) && unused d p b

-- what the source comes to in at most 32 turns: no end, costs, a sentence
abbrev pub never : Flat → Option (Unit {0})
never g = stuck_in (denoted g) (price g) 32 start

abbrev pub costs_given : Flat → Option Costs
costs_given g = costs_in (denoted g) (price g) 32 start

abbrev pub sentence_given : Flat → Costs → ℕ → Option (List ℕ)
sentence_given g c r = sentence_in (denoted g) (price g) true c 32 r

-- it came to something, and this passes
abbrev pub so : {A : Type 0} → Option A → (A → Bool) → Bool
so none f = false
so (some a) f = f a

abbrev pub looked : Claim → Bool
looked (first_is g r ts) = agree (length g.costs) (λ t. (first_filled (denoted g)).first r t) ts
looked (follow_is g r ts) = agree (length g.costs) (λ t. follow_filled (denoted g) r t) ts
looked (marks_are g v r ts e) = agree (length g.costs) (λ t. (run (first_visit (denoted g)) v first_cleared).first r t) ts && same ((run (first_visit (denoted g)) v first_cleared).empty r) e
looked (cost_is g r n) = eqb (cost_filled (denoted g) (price g) r) n
looked (no_sentence g r) = not (productive_filled (denoted g) r)
looked (circular g r) = leb (cost_filled (denoted g) (price g) r) 65535 && not (within (denoted g) (chosen (denoted g) (price g)) g.rules r)
looked (sentence_is g r w) = within (denoted g) (chosen (denoted g) (price g)) g.rules r && same_list (expanded (denoted g) (chosen (denoted g) (price g)) g.rules r) w
looked (path g a by b) = leads (denoted g) a by b
looked (no_path g a b) = unused (denoted g) (denoted g).prods b
looked (reached_are g rs) = agree g.rules (reached_filled (denoted g)) rs
looked (stands_are g r ts) = agree (length g.costs) (λ t. follow_filled (denoted g) r t) ts
looked (dearer_upto g t d r n) = (leb (cost_filled (denoted g) (price g) r) 65535 && within (denoted g) (chosen (denoted g) (price g)) g.rules r) && (leb n 65535 && eqb (cost_filled (denoted g) (price g) r + d * occurs t (expanded (denoted g) (chosen (denoted g) (price g)) g.rules r)) n)
looked (judged g v) = same_verdict (verdict_by (denoted g) (first_filled (denoted g)) (follow_filled (denoted g))) v
looked (source_never g) = so (never g) (λ u. true)
looked (source_gives g r n w) = so (costs_given g) (λ c. eqb (c r) n && so (sentence_given g c r) (λ v. same_list v w))

-- the grammar is well-formed, and what its tables hold is what is claimed
abbrev pub test : Claim → Bool
test c = is_answer (check_of (grammar_of c)) && looked c

abbrev pub tests : List Claim → Bool
tests [] = true
tests (c ∷ cs) = test c && tests cs
