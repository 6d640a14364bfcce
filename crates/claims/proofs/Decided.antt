-- A claim whose test is true means what it says.
use mathlib.Core.Bool.{Bool, true, not, ◌&&◌, false≢true, true≢false}
use mathlib.Core.List.Memᴰ
use mathlib.Core.List.{List, [], ◌∷◌, Memᴰ}
use mathlib.Core.Logic.{inl, inr, ◌↔◌}
use mathlib.Core.Option.{Option, none, some}
use mathlib.Core.Path.{◌≡◌, refl, sym, ap, ap₂, ◌∙◌, subst}
use Prim.Native.Nat.{ℕ, zero, suc, ◌+◌, ◌*◌, ◌≤◌, ◌<◌}
use native.Mathlib.Nat.{eq-or-lt_of_le, le_of_suc-le-suc, not-suc-le-zero}
use native.Mathlib.Omega.{arith}
use lib.Dec.{eqb, leb}
use lib.ListN.{length, length-replicate}
use borrow.Author.Tests.{eqb-true, leb-true, eq-eqb, not-true}
use Rattle.theory.specs.Dearer.{occurs}
use Rattle.theory.specs.Definitions.{Cost}
use Rattle.theory.specs.Grammar.{rul, Grammar}
use Rattle.theory.specs.Levels.{Chosen, within, expanded}
use Rattle.theory.specs.Search.{Chain, one, link}
use Rattle.theory.specs.Profile.{Verdict, passes, clashes, Judged}
use Rattle.theory.specs.Sentences.{Expands}
use Rattle.theory.specs.Rounds.{run, rounds, AnyOrder}
use Rattle.theory.specs.Visits.{first_visit, first_cleared, among}
use Rattle.theory.specs.Tables.{Proper, FirstExact, ReachedExact, FollowExact, ProductiveExact, CostExact}
use Rattle.theory.proofs.Bools.{and_split, or_split, or_left, or_right, same, same_is}
use Rattle.theory.proofs.Choices.{choices_chosen}
use Rattle.theory.proofs.CostRounds.{cost_any_order}
use Rattle.theory.proofs.Dearer.{dearer}
use Rattle.theory.proofs.Sentences.{sentence_of}
use Rattle.theory.proofs.First.{first_any_order}
use Rattle.theory.proofs.Follow.{follow_any_order}
use Rattle.theory.proofs.Levels.{grounded_levels, within_expands}
use Rattle.theory.proofs.Paths.{Uses, path_chain}
use Rattle.theory.proofs.Productive.{productive_any_order}
use Rattle.theory.proofs.Profile.{verdict_judged}
use Rattle.theory.proofs.Reached.{among_mem, mem_among, reached_any_order}
use Rattle.theory.proofs.Rounds.{upto, upto_round, all_rounds, settled_exact}
use Rattle.theory.proofs.Standing.{exact_stands}
use Rattle.source.specs.Costs.{start}
use Rattle.source.specs.Sentence as Sentence
use Rattle.source.proofs.Running.{costs_return, stuck_never, sentence_return}
use Rattle.grammar.specs.Flat.{Flat, denoted, price}
use Rattle.grammar.specs.Outcome.{Outcome, answers, refused}
use Rattle.grammar.specs.Production.{check_of}
use Rattle.grammar.specs.Well.{WellFormed}
use Rattle.grammar.proofs.Denoted.{proper}
use Rattle.grammar.proofs.Well.{well}
use Rattle.claims.specs.Claims.{Claim, first_is, follow_is, marks_are, cost_is, no_sentence, circular, sentence_is, path, no_path, reached_are, stands_are, dearer_upto, judged, source_never, source_gives, grammar_of, Says, Means, AllMean}
use Rattle.claims.proofs.Tests.{is_answer, many, first_filled, reached_filled, follow_filled, productive_filled, cost_filled, chosen, holds, same_list, same_verdict, agree, uses, leads, unused, never, costs_given, sentence_given, so, looked, test, tests}

-- lookups
agree_at : (n : ℕ) (f : ℕ → Bool) (ts : List ℕ) → agree n f ts ≡ true → (t : ℕ) → t < n → f t ≡ holds t ts
agree_at zero f ts e t lt = absurd (not-suc-le-zero lt)
agree_at (suc n) f ts e t lt =
    let s = and_split (same (f n) (holds n ts)) _ e in
    elim (eq-or-lt_of_le (le_of_suc-le-suc lt)) [ inl d ↦ ap f d ∙ same_is _ _ s.0 ∙ ap (λ z. holds z ts) (sym d) | inr l ↦ agree_at n f ts s.1 t l ]

holds_mem : (t : ℕ) (ts : List ℕ) → holds t ts ≡ true → Memᴰ t ts
holds_mem t [] e = absurd (false≢true e)
holds_mem t (s ∷ ts) e = elim (or_split (eqb t s) _ e) [ inl k ↦ Memᴰ.head (eqb-true t s k) | inr k ↦ Memᴰ.tail (holds_mem t ts k) ]

mem_holds : (t : ℕ) (ts : List ℕ) → Memᴰ t ts → holds t ts ≡ true
mem_holds t [] m = absurd (Memᴰ.not-nil m)
mem_holds t (s ∷ ts) m = elim (Memᴰ.cases_cons m) [ inl d ↦ or_left _ (eq-eqb t s d) | inr n ↦ or_right (eqb t s) (mem_holds t ts n) ]

set_is : {A : Type 0} (f : Bool) (t : ℕ) (ts : List ℕ) → A ↔ (f ≡ true) → f ≡ holds t ts → A ↔ Memᴰ t ts
set_is f t ts x e = ((λ a. holds_mem t ts (sym e ∙ x.0 a)), λ m. x.1 (e ∙ mem_holds t ts m))

list_same : (xs ys : List ℕ) → same_list xs ys ≡ true → xs ≡ ys
list_same [] [] e = refl
list_same [] (y ∷ ys) e = absurd (false≢true e)
list_same (x ∷ xs) [] e = absurd (false≢true e)
list_same (x ∷ xs) (y ∷ ys) e = let s = and_split (eqb x y) _ e in ap₂ ◌∷◌ (eqb-true x y s.0) (list_same xs ys s.1)

-- paths
module _ (d : Grammar) where
  uses_is : (n : ℕ) → n ≤ d.prods → (a b : ℕ) → uses d n a b ≡ true → Uses d a b
  uses_is zero l a b e = absurd (false≢true e)
  uses_is (suc p) l a b e = elim (or_split (eqb (d.owner p) a && among (d.body p) b) _ e) [
    | inl k ↦ let s = and_split (eqb (d.owner p) a) _ k in record { prod = p; is_prod = l; owns = eqb-true _ a s.0; holds = among_mem (d.body p) b s.1 }
    | inr k ↦ uses_is p (omega arith) a b k
  ]

  leads_is : (a : ℕ) (by : List ℕ) (b : ℕ) → leads d a by b ≡ true → Chain (Uses d) a b
  leads_is a [] b e = one (uses_is d.prods (omega arith) a b e)
  leads_is a (c ∷ by) b e = let s = and_split (uses d d.prods a c) _ e in link (uses_is d.prods (omega arith) a c s.0) (leads_is c by b s.1)

  unused_is : (n b : ℕ) → unused d n b ≡ true → (p : ℕ) → p < n → Memᴰ (rul b) (d.body p) → ⊥
  unused_is zero b e p lt m = not-suc-le-zero lt
  unused_is (suc n) b e p lt m =
      let s = and_split (not (among (d.body n) b)) _ e in
      elim (eq-or-lt_of_le (le_of_suc-le-suc lt)) [
        | inl q ↦ true≢false (sym (mem_among (d.body n) b (subst (λ z. Memᴰ (rul b) (d.body z)) q m)) ∙ not-true _ s.0)
        | inr l ↦ unused_is n b s.1 p l m
      ]

  unused_chain : (b : ℕ) → unused d d.prods b ≡ true → {a : ℕ} → Chain (Uses d) a b → ⊥
  unused_chain b e (one u) = unused_is d.prods b e u.prod u.is_prod u.holds
  unused_chain b e (link u c) = unused_chain b e c

-- tables
module _ (d : Grammar) (ok : Proper d) where
  -- a table filled by its rounds is the defined one
  filled_right : {S : Type 0} {step : ℕ → S → S} {cleared : S} {n : ℕ} {Holds Exact : S → Type 0} → AnyOrder step cleared d.prods n Holds Exact → Exact (rounds step (many d n) cleared)
  filled_right {n = n} a = settled_exact a (many d n) (all_rounds n (upto d.prods) (upto_round d.prods)) (omega (arith, length-replicate n (upto d.prods)))

  first_right : FirstExact d (first_filled d)
  first_right = filled_right (first_any_order d ok)

  reached_right : ReachedExact d (reached_filled d)
  reached_right = filled_right (reached_any_order d ok)

  follow_right : FollowExact d (follow_filled d)
  follow_right = filled_right (follow_any_order d ok (first_filled d) first_right (reached_filled d) reached_right)

  productive_right : ProductiveExact d (productive_filled d)
  productive_right = filled_right (productive_any_order d ok)

  cost_right : (k : ℕ → ℕ) → CostExact d k (cost_filled d k)
  cost_right k = filled_right (cost_any_order d k ok)

  picks : (k : ℕ → ℕ) → Chosen d k (cost_filled d k) (chosen d k)
  picks k = choices_chosen d k (cost_filled d k)

fine : (g : Flat) → is_answer (check_of g) ≡ true → WellFormed g
fine g e = go (check_of g) refl e
  where
    go : (o : Outcome (Unit {0})) → check_of g ≡ o → is_answer o ≡ true → WellFormed g
    go (answers tt) q k = well g q
    go (refused n) q k = absurd (false≢true k)

-- verdicts that are the same
verdict_same : (v w : Verdict) → same_verdict v w ≡ true → v ≡ w
verdict_same passes passes e = refl
verdict_same passes (clashes r p q t) e = absurd (false≢true e)
verdict_same (clashes r p q t) passes e = absurd (false≢true e)
verdict_same (clashes r p q t) (clashes r' p' q' t') e =
    let s = and_split (eqb r r' && eqb p p') _ e in
    let a = and_split (eqb r r') _ s.0 in
    let b = and_split (eqb q q') _ s.1 in
    rw (eqb-true r r' a.0, eqb-true p p' a.1, eqb-true q q' b.0, eqb-true t t' b.1)

-- what a run came to
so_some : {A : Type 0} (x : Option A) (f : A → Bool) → so x f ≡ true → (a : A) × (x ≡ some a) × (f a ≡ true)
so_some none f e = absurd (false≢true e)
so_some (some a) f e = (a, refl, e)

says : (c : Claim) → Proper (denoted (grammar_of c)) → looked c ≡ true → Says c
says (first_is g r ts) ok e = λ t l. set_is _ t ts ((first_right (denoted g) ok).first r t) (agree_at (length g.costs) _ ts e t l)
says (follow_is g r ts) ok e = λ t l. set_is _ t ts (follow_right (denoted g) ok r t) (agree_at (length g.costs) _ ts e t l)
says (marks_are g v r ts b) ok e =
    let s = and_split (agree (length g.costs) (λ t. (run (first_visit (denoted g)) v first_cleared).first r t) ts) _ e in
    ((λ t l. set_is _ t ts ((λ k. k), λ k. k) (agree_at (length g.costs) _ ts s.0 t l)), same_is _ b s.1)
says (cost_is g r n) ok e = subst (λ z. Cost (denoted g) (price g) r z) (eqb-true _ n e) (cost_right (denoted g) ok (price g) r)
says (no_sentence g r) ok e = λ h. true≢false (sym ((productive_right (denoted g) ok r).0 h) ∙ not-true _ e)
says (circular g r) ok e =
    let s = and_split (leb (cost_filled (denoted g) (price g) r) 65535) _ e in (
      cost_filled (denoted g) (price g),
      cost_right (denoted g) ok (price g),
      leb-true _ 65535 s.0,
      λ y. true≢false (sym ((grounded_levels (denoted g) (price g) (cost_filled (denoted g) (price g)) ok (chosen (denoted g) (price g)) (picks (denoted g) ok (price g)) r).0 y) ∙ not-true _ s.1),
    )
says (sentence_is g r w) ok e =
    let s = and_split (within (denoted g) (chosen (denoted g) (price g)) g.rules r) _ e in (
      cost_filled (denoted g) (price g),
      cost_right (denoted g) ok (price g),
      subst (λ z. Expands (denoted g) (price g) (cost_filled (denoted g) (price g)) (rul r ∷ []) z) (list_same _ w s.1) (within_expands (denoted g) (price g) (cost_filled (denoted g) (price g)) ok (chosen (denoted g) (price g)) (picks (denoted g) ok (price g)) g.rules r s.0),
    )
says (path g a by b) ok e = path_chain.1 (leads_is (denoted g) a by b e)
says (no_path g a b) ok e = λ p. unused_chain (denoted g) b e (path_chain.0 p)
says (reached_are g rs) ok e = λ r l. set_is _ r rs (reached_right (denoted g) ok r) (agree_at g.rules _ rs e r l)
says (stands_are g r ts) ok e = λ t l. set_is _ t ts (exact_stands (denoted g) (follow_filled (denoted g)) (follow_right (denoted g) ok) r t) (agree_at (length g.costs) _ ts e t l)
says (dearer_upto g t d r n) ok e =
    let s = and_split (leb (cost_filled (denoted g) (price g) r) 65535 && within (denoted g) (chosen (denoted g) (price g)) g.rules r) _ e in
    let v = and_split (leb (cost_filled (denoted g) (price g) r) 65535) _ s.0 in
    let q = and_split (leb n 65535) _ s.1 in
    let i = sentence_of (within_expands (denoted g) (price g) (cost_filled (denoted g) (price g)) ok (chosen (denoted g) (price g)) (picks (denoted g) ok (price g)) g.rules r v.1) in
    let w = expanded (denoted g) (chosen (denoted g) (price g)) g.rules r in
    let b : cost_filled (denoted g) (price g) r + d * occurs t w ≡ n = eqb-true _ n q.1 in
    λ k h c y. subst (λ z. c ≤ z) b ((dearer h (cost_right (denoted g) ok (price g) r) y).upto w i.0 i.1 (subst (λ z. z ≤ 65535) (sym b) (leb-true n 65535 q.0)))
says (judged g v) ok e = subst (λ z. Judged (denoted g) z) (verdict_same _ v e) (verdict_judged (denoted g) ok (first_filled (denoted g)) (first_right (denoted g) ok) (follow_filled (denoted g)) (follow_right (denoted g) ok))
says (source_never g) ok e = λ c x. stuck_never (denoted g) (price g) 32 start (so_some (never g) _ e).1 x
says (source_gives g r n w) ok e =
    let c = so_some (costs_given g) _ e in
    let s = and_split (eqb (c.0 r) n) _ c.2 in
    let v = so_some (sentence_given g c.0 r) _ s.1 in
    let x = costs_return (denoted g) (price g) 32 start c.1 in
    (c.0, x, eqb-true _ n s.0, subst (λ z. Sentence.Returns (denoted g) (price g) c.0 r z) (list_same _ w v.2) (sentence_return (denoted g) (price g) true c.0 (λ y. x) 32 r v.1))

pub decided : (c : Claim) → test c ≡ true → Means c
decided c e =
    let s = and_split (is_answer (check_of (grammar_of c))) _ e in
    let w = fine (grammar_of c) s.0 in
    (w, says c (proper (grammar_of c) w) s.1)

-- one lemma for all claims of a list
pub all_decided : (cs : List Claim) → tests cs ≡ true → AllMean cs
all_decided [] e = tt
all_decided (c ∷ cs) e = let s = and_split (test c) _ e in (decided c s.0, all_decided cs s.1)
