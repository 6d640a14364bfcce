-- Demand 2 for sentences, on every grammar that the crate can build: where the source returns, the length fits and no used production has the place that document 01 names, its result is ours.
use Rattle.grammar.specs.declared.refusal.Refusal.{Refusal}
use Rattle.grammar.specs.Lent.{outcome_of}
use Rattle.std.specs.Prelude.{Result}
use mathlib.Core.List.Memᴰ
use mathlib.Core.List.{List, [], ◌∷◌, Memᴰ}
use mathlib.Core.Bool.{false, false≢true}
use mathlib.Core.Logic.{inl, inr}
use mathlib.Core.Path.{◌≡◌, refl, sym, ap, ◌∙◌, subst}
use Prim.Native.Nat.{ℕ, zero, suc, ◌≤◌, ◌<◌}
use native.Mathlib.Omega.{arith}
use lib.ListN.{length}
use Rattle.theory.specs.Below.{some}
use Rattle.theory.specs.Grammar.{tok, rul}
use Rattle.theory.specs.Sentences.{Choice}
use Rattle.theory.specs.Visits.{Costs}
use Rattle.source.specs.Costs.{start, Returns as CostsReturn}
use Rattle.source.specs.Sentence.{Returns, NoPlace, first, inner}
use Rattle.source.proofs.Running.{stuck_never, sentence_return}
use Rattle.source.proofs.Sentence.{sentence_same}
use Rattle.grammar.specs.Flat.{Flat, flat, at, denoted, price}
use Rattle.grammar.specs.Outcome.{Outcome, answers}
use Rattle.grammar.specs.Refusals.{sizes_out, falls, starts_wrong, owner_out, owns, rule_unowned, symbol_out, symbols_out, one_rule, start_long, start_held, start_wrong, unless_due}
use Rattle.grammar.specs.Well.{Built}
use Rattle.grammar.proofs.Denoted.{proper}
use Rattle.grammar.proofs.Well.{well}
use Rattle.engine.specs.Cost.{costs_of}
use Rattle.sentences.specs.Query.{Lends, lends, sentence_due, Writes, Sentenced, MinSentence}

-- b is the source's list of costs, if it asks for one; v is what its `min_sentence` returns
pub source_equal : (g : Flat) → Built g → (r : ℕ) (out : List ℕ) {s : Outcome ℕ} {a : Lends} → Sentenced g r out s a
    → (b : Costs) (v : List ℕ) → Returns (denoted g) (price g) b r v → NoPlace (denoted g) (price g) (costs_of a.cost) r
    → length v ≤ 65535 → length v ≤ length out → Writes v out s a.out
source_equal g w r out {a = a} x b v y h short room = x.says.is v (sentence_same (denoted g) (price g) (proper g w.well) b (costs_of a.cost) x.cost.exact y h) short room

-- the same of a call, whatever was lent to it
pub call_source : (g : Flat) → Built g → (r : ℕ) (cost lengths out : List ℕ) → sentence_due g r (lends cost lengths out) ≡ answers tt
    → (q : Result ℕ Refusal) (cost' lengths' out' : List ℕ) → MinSentence g r cost lengths out q cost' lengths' out'
    → (b : Costs) (v : List ℕ) → Returns (denoted g) (price g) b r v → NoPlace (denoted g) (price g) (costs_of cost') r
    → length v ≤ 65535 → length v ≤ length out → Writes v out (outcome_of q) out'
call_source g w r cost lengths out due q cost' lengths' out' m b v y h short room = source_equal g w r out (m.does due) b v y h short room

-- A: a; B: B. Rules 1 A, 2 B; token 0 a
abbrev pub lone : Flat
lone = flat 3 (0 ∷ 1 ∷ 2 ∷ []) (0 ∷ 1 ∷ 2 ∷ 3 ∷ []) (32769 ∷ 0 ∷ 32770 ∷ []) (1 ∷ 1 ∷ [])

lone_built : Built lone
unfolding some sizes_out falls starts_wrong owner_out owns rule_unowned symbol_out symbols_out one_rule start_long start_held start_wrong unless_due
lone_built = record { well = well lone refl; only = λ p q lp lq ep eq. first_owned p lp ep ∙ sym (first_owned q lq eq) }
  where
    first_owned : (p : ℕ) → p < 3 → at (0 ∷ 1 ∷ 2 ∷ []) p ≡ 0 → p ≡ 0
    first_owned zero l e = refl
    first_owned (suc zero) l e = absurd (omega (arith, e))
    first_owned (suc (suc zero)) l e = absurd (omega (arith, e))
    first_owned (suc (suc (suc p))) l e = absurd (omega (arith, l))

-- its costs never return
pub lone_never : {c : Costs} → CostsReturn (denoted lone) (price lone) start c → ⊥
unfolding some
lone_never x = stuck_never (denoted lone) (price lone) 2 start refl x

-- and yet the source's `min_sentence` of A returns a: it asks for no cost
pub lone_returns : (b : Costs) → Returns (denoted lone) (price lone) b 1 (0 ∷ [])
lone_returns b = sentence_return (denoted lone) (price lone) false b (λ e. absurd (false≢true e)) 2 1 refl

-- A's only production holds no rule
lone_choice : {c : Costs} (p : ℕ) → Choice (denoted lone) (price lone) c 1 p → p ≡ 1
lone_choice zero d = absurd (omega (arith, d.owns))
lone_choice (suc zero) d = refl
lone_choice (suc (suc zero)) d = absurd (omega (arith, d.owns))
lone_choice (suc (suc (suc p))) d = absurd (omega (arith, d.is_prod))

bare : (s : ℕ) → Memᴰ (rul s) (tok 0 ∷ []) → ⊥
bare s m = elim (Memᴰ.cases_cons m) [ inl d ↦ let z : ◌≡◌ {A = ℕ} 0 1 = cc in omega arith | inr n ↦ Memᴰ.not-nil n ]

lone_place : (c : Costs) → NoPlace (denoted lone) (price lone) c 1
lone_place c p (first d) x = bare x.rule (subst (λ z. Memᴰ (rul x.rule) z) (sym x.is ∙ ap (λ z. (denoted lone).body z) (lone_choice p d)) (Memᴰ.append_right x.front (Memᴰ.head refl)))
lone_place c p (inner {q = q} {s = s} d m u) x = bare s (subst (λ z. Memᴰ (rul s) ((denoted lone).body z)) (lone_choice q d) m)

-- so a call with room for it writes a
pub lone_writes : (cost lengths out : List ℕ) → sentence_due lone 1 (lends cost lengths out) ≡ answers tt → 1 ≤ length out
    → (q : Result ℕ Refusal) (cost' lengths' out' : List ℕ) → MinSentence lone 1 cost lengths out q cost' lengths' out' → Writes (0 ∷ []) out (outcome_of q) out'
lone_writes cost lengths out due room q cost' lengths' out' m =
    call_source lone lone_built 1 cost lengths out due q cost' lengths' out' m (λ r. 0) (0 ∷ []) (lone_returns (λ r. 0)) (lone_place (costs_of cost')) (omega arith) room
