-- What a dearer token does to what two fills leave and to what two cost queries answer.
use Rattle.grammar.specs.declared.refusal.Refusal.{Refusal}
use Rattle.std.specs.Prelude.{Result}
use Rattle.grammar.specs.Lent.{outcome_of}
use mathlib.Core.List.{List}
use mathlib.Core.Logic.{◌⊎◌, inl, inr}
use mathlib.Core.Path.{◌≡◌, sym, ◌∙◌, ap, subst}
use Prim.Native.Nat.{ℕ, ◌+◌, ◌*◌, ◌≤◌}
use native.Mathlib.Decide.{dec_le}
use native.Mathlib.Omega.{arith}
use Rattle.theory.specs.Definitions.{Cost}
use Rattle.theory.specs.Dearer.{occurs, Dearer}
use Rattle.theory.proofs.Dearer.{dearer}
use Rattle.grammar.specs.Flat.{Flat, denoted, price}
use Rattle.grammar.specs.Outcome.{Outcome, answers, refused}
use Rattle.grammar.specs.Production.{check_of}
use Rattle.grammar.specs.Refusals.{unless_due}
use Rattle.tables.specs.Sizes.{numbers_wrong}
use Rattle.costs.specs.Calls.{fill_due, Fill}
use Rattle.costs.specs.Defined.{CostDefined}
use Rattle.costs.specs.Dearer.{OneDearer, Becomes, none, dear, rises, passes}
use Rattle.engine.specs.Cost.{costs_of}
use Rattle.costs.specs.Query.{query_due, Priced, MinSentenceCost}

-- what the query says, by the entry
abbrev Said : (n : ℕ) → Outcome ℕ → Type 0
Said n s = ((n ≤ 65535) × (s ≡ answers n)) ⊎ (((n ≡ 65536) × (s ≡ refused 13)) ⊎ ((n ≡ 65537) × (s ≡ refused 12)))

said_entry : (g : Flat) (r : ℕ) (s : Outcome ℕ) (a : List ℕ) → Priced g r s a → Said (costs_of a r) s
said_entry g r s a x = let c = x.cost.exact r in elim (dec_le (costs_of a r) 65535) [
  | yes l ↦ inl (l, x.is (costs_of a r) l c)
  | no l ↦ elim (dec_le (costs_of a r) 65536) [
    | yes m ↦ inr (inl (omega arith, x.dear (c.known m) (λ w y. omega (arith, c.least w y))))
    | no m ↦ inr (inr (omega (arith, c.cap), x.none (λ p. omega (arith, c.least p.0 p.1))))
  ]
]

module _ (g : Flat) (t d : ℕ) (h : Flat) (o : OneDearer g t d h) where
  -- no refusal of 1 to 6 reads a cost
  pub dearer_checks : check_of h ≡ check_of g
  unfolding unless_due
  dearer_checks = ap check_of o.same ∙ rw o.long

  -- nor does what is derived
  same_grammar : denoted h ≡ denoted g
  same_grammar = ap denoted o.same ∙ ap (λ n. record { rules = g.rules; tokens = n; prods = (denoted g).prods; owner = (denoted g).owner; body = (denoted g).body }) o.long

  -- two COST tables
  pub dearer_tables : (a b : List ℕ) → CostDefined g a → CostDefined h b → (r : ℕ) → Dearer (denoted g) (price g) t d r (costs_of a r) (costs_of b r)
  dearer_tables a b x y r = dearer o.up (x.exact r) (subst (λ z. Cost z (price h) r (costs_of b r)) same_grammar (y.exact r))

  -- what two fills leave, whatever was lent to them
  pub dearer_fill : (u v a b : List ℕ) (p q : Result (Unit {0}) Refusal) → fill_due g (numbers_wrong g.rules u) ≡ answers tt → fill_due h (numbers_wrong h.rules v) ≡ answers tt → Fill g u p a → Fill h v q b
      → (r : ℕ) → Dearer (denoted g) (price g) t d r (costs_of a r) (costs_of b r)
  dearer_fill u v a b p q du dv x y = dearer_tables a b (x.does du).left (y.does dv).left

  -- what two queries answer
  becomes : (r m n : ℕ) (s z : Outcome ℕ) → Dearer (denoted g) (price g) t d r m n → Said m s → Said n z → Becomes g t d r s z
  becomes r m n s z e (inl x) (inl y) = subst (λ u. Becomes g t d r u z) (sym x.1) (subst (λ u. Becomes g t d r (answers m) u) (sym y.1) (rises e))
  becomes r m n s z e (inl x) (inr (inl y)) = subst (λ u. Becomes g t d r u z) (sym x.1) (subst (λ u. Becomes g t d r (answers m) u) (sym y.1) (passes (λ w k q. elim (dec_le (m + d * occurs t w) 65535) [
    | yes l ↦ absurd (omega (arith, y.0, e.upto w k q l))
    | no l ↦ omega arith
  ])))
  becomes r m n s z e (inl x) (inr (inr y)) = absurd (omega (arith, x.0, e.only y.0))
  becomes r m n s z e (inr (inl x)) (inl y) = absurd (omega (arith, x.0, y.0, e.rises))
  becomes r m n s z e (inr (inl x)) (inr (inl y)) = subst (λ u. Becomes g t d r u z) (sym x.1) (subst (λ u. Becomes g t d r (refused 13) u) (sym y.1) dear)
  becomes r m n s z e (inr (inl x)) (inr (inr y)) = absurd (omega (arith, x.0, e.only y.0))
  becomes r m n s z e (inr (inr x)) (inl y) = absurd (omega (arith, y.0, e.none x.0))
  becomes r m n s z e (inr (inr x)) (inr (inl y)) = absurd (omega (arith, y.0, e.none x.0))
  becomes r m n s z e (inr (inr x)) (inr (inr y)) = subst (λ u. Becomes g t d r u z) (sym x.1) (subst (λ u. Becomes g t d r (refused 12) u) (sym y.1) none)

  pub dearer_query : (r : ℕ) (u v a b : List ℕ) (p q : Result ℕ Refusal) → query_due g r u ≡ answers tt → query_due h r v ≡ answers tt → MinSentenceCost g r u p a → MinSentenceCost h r v q b → Becomes g t d r (outcome_of p) (outcome_of q)
  dearer_query r u v a b p q du dv x y =
      let i = x.does du in let j = y.does dv in becomes r _ _ (outcome_of p) (outcome_of q) (dearer_tables a b i.cost j.cost r) (said_entry g r _ a i) (said_entry h r _ b j)
