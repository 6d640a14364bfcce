-- The productions from the last down: the marks of the rows passed, and the least clash among them.
use mathlib.Core.Bool.{Bool, true, false, ◌&&◌, ◌||◌}
use mathlib.Core.Logic.{◌⊎◌, inl, inr}
use mathlib.Core.Path.{◌≡◌, refl, sym, subst}
use Prim.Native.Nat.{ℕ, suc, ◌≤◌, ◌<◌}
use native.Mathlib.Decide.{ℕ_discrete, dec_lt}
use native.Mathlib.Omega.{arith}
use lib.Dec.{eqb, leb, ltb}
use borrow.Author.Tests.{eqb-true, leb-true, le-leb, lt-leb, ltb-true, lt-ltb}
use Rattle.theory.specs.Below.{some, FirstBelow}
use Rattle.theory.specs.Clashes.{row_of, shares_of, pair_of, low_of, rule_of, above_of, Lowest}
use Rattle.theory.specs.Grammar.{Grammar}
use Rattle.theory.specs.Visits.{Table, Marks}
use Rattle.theory.proofs.Below.{some_at, some_found, all_none, first_at, first_none}
use Rattle.theory.proofs.Bools.{and_split, and_join, or_split, or_left, or_right, fails, bool_eq, eqb_same}

module _ (g : Grammar) (m : Marks) (f : Table) where
  -- production q, from i on, is one of rule r and has the mark t
  abbrev at : (i r t q : ℕ) → Bool
  at i r t q = (leb i q && eqb (g.owner q) r) && row_of g m f q t

  -- nothing yet, and one production more
  pub above_none : (r t : ℕ) → above_of g m f g.prods r t ≡ false
  above_none r t = all_none (at g.prods r t) g.prods (λ q l. rw (lt-leb g.prods q l))

  pub above_more : (i r t : ℕ) → i < g.prods → above_of g m f i r t ≡ (above_of g m f (suc i) r t || (eqb (g.owner i) r && row_of g m f i t))
  above_more i r t lt = bool_eq _ _ to from
    where
      to : above_of g m f i r t ≡ true → (above_of g m f (suc i) r t || (eqb (g.owner i) r && row_of g m f i t)) ≡ true
      to e =
          let s = some_found (at i r t) g.prods e in
          let a = and_split (leb i s.0 && eqb (g.owner s.0) r) _ s.2 in
          let b = and_split (leb i s.0) _ a.0 in
          elim (ℕ_discrete s.0 i) [
            | yes d ↦ or_right (above_of g m f (suc i) r t) (subst (λ z. (eqb (g.owner z) r && row_of g m f z t) ≡ true) d (and_join b.1 a.1))
            | no d ↦ or_left _ (some_at (at (suc i) r t) g.prods s.0 s.1 (and_join (and_join (le-leb (suc i) s.0 (omega (arith, leb-true i s.0 b.0))) b.1) a.1))
          ]

      from : (above_of g m f (suc i) r t || (eqb (g.owner i) r && row_of g m f i t)) ≡ true → above_of g m f i r t ≡ true
      from e = elim (or_split (above_of g m f (suc i) r t) _ e) [
        | inl k ↦
            let s = some_found (at (suc i) r t) g.prods k in
            let a = and_split (leb (suc i) s.0 && eqb (g.owner s.0) r) _ s.2 in
            let b = and_split (leb (suc i) s.0) _ a.0 in
            some_at (at i r t) g.prods s.0 s.1 (and_join (and_join (le-leb i s.0 (omega (arith, leb-true (suc i) s.0 b.0))) b.1) a.1)
        | inr k ↦ let a = and_split (eqb (g.owner i) r) _ k in some_at (at i r t) g.prods i lt (and_join (and_join (le-leb i i (omega arith)) a.0) a.1)
      ]

  -- a production clashes with a higher one exactly where its row shares a mark with those of the rule above it
  module _ (p : ℕ) where
    abbrev both : ℕ → Bool
    both t = row_of g m f p t && above_of g m f (suc p) (g.owner p) t

    pub low_above : low_of g m f (g.owner p) p ≡ some (suc g.tokens) both
    low_above = bool_eq _ _ to from
      where
        to : low_of g m f (g.owner p) p ≡ true → some (suc g.tokens) both ≡ true
        to e =
            let s = some_found (pair_of g m f p) g.prods (and_split (eqb (g.owner p) (g.owner p)) _ e).1 in
            let a = and_split (ltb p s.0 && eqb (g.owner s.0) (g.owner p)) _ s.2 in
            let b = and_split (ltb p s.0) _ a.0 in
            let u = some_found (shares_of g m f p s.0) (suc g.tokens) a.1 in
            let v = and_split (row_of g m f p u.0) _ u.2 in
            some_at both (suc g.tokens) u.0 u.1
            (and_join v.0 (some_at (at (suc p) (g.owner p) u.0) g.prods s.0 s.1 (and_join (and_join (le-leb (suc p) s.0 (omega (arith, ltb-true p s.0 b.0))) b.1) v.1)))

        from : some (suc g.tokens) both ≡ true → low_of g m f (g.owner p) p ≡ true
        from e =
            let u = some_found both (suc g.tokens) e in
            let v = and_split (row_of g m f p u.0) _ u.2 in
            let s = some_found (at (suc p) (g.owner p) u.0) g.prods v.1 in
            let a = and_split (leb (suc p) s.0 && eqb (g.owner s.0) (g.owner p)) _ s.2 in
            let b = and_split (leb (suc p) s.0) _ a.0 in
            and_join (eqb_same (g.owner p))
            (some_at (pair_of g m f p) g.prods s.0 s.1
            (and_join (and_join (lt-ltb p s.0 (omega (arith, leb-true (suc p) s.0 b.0))) b.1) (some_at (shares_of g m f p s.0) (suc g.tokens) u.0 u.1 (and_join v.0 a.1))))

  -- no production yet, and one more
  pub lowest_none : Lowest g m f g.prods g.rules 0
  lowest_none = record {
    is_prod = λ l. absurd (omega arith);
    is_low = λ l. absurd (omega arith);
    least = λ p a b e. absurd (omega arith);
  }

  module _ (i rule lower : ℕ) (w : Lowest g m f (suc i) rule lower) where
    pub lowest_this : i < g.prods → low_of g m f (g.owner i) i ≡ true → g.owner i ≤ rule → Lowest g m f i (g.owner i) i
    lowest_this lt e le = record {
      is_prod = λ l. lt;
      is_low = λ l. e;
      least = λ p a b d. elim (ℕ_discrete p i) [
        | yes q ↦ inr (subst (λ z. g.owner i ≡ g.owner z) (sym q) refl, a)
        | no n ↦ elim (w.least p (omega arith) b d) [
          | inl l ↦ inl (omega arith)
          | inr (q, l) ↦ elim (ℕ_discrete (g.owner i) (g.owner p)) [ yes z ↦ inr (z, a) | no z ↦ inl (omega arith) ]
        ]
      ];
    }

    pub lowest_same : (low_of g m f (g.owner i) i ≡ true → g.owner i ≤ rule → ⊥) → Lowest g m f i rule lower
    lowest_same other = record {
      is_prod = w.is_prod;
      is_low = w.is_low;
      least = λ p a b d. elim (ℕ_discrete p i) [
        | yes q ↦ elim (dec_lt rule (g.owner p)) [
          | yes l ↦ inl l
          | no l ↦ absurd (other (subst (λ z. low_of g m f (g.owner z) z ≡ true) q d) (subst (λ z. g.owner z ≤ rule) q (let z : g.owner p ≤ rule = omega arith in z)))
        ]
        | no n ↦ w.least p (omega arith) b d
      ];
    }

  -- all of them: the first rule that has a clash, and its first production that has one
  module _ (rule lower : ℕ) (w : Lowest g m f 0 rule lower) where
    -- a production of rule r that has a clash is no lower
    no_lower : (r p : ℕ) → p < g.prods → low_of g m f r p ≡ true → (rule < r) ⊎ ((rule ≡ r) × (lower ≤ p))
    no_lower r p lp e =
        let o = eqb-true (g.owner p) r (and_split (eqb (g.owner p) r) _ e).0 in
        subst (λ z. (rule < z) ⊎ ((rule ≡ z) × (lower ≤ p))) o (w.least p (omega arith) lp (subst (λ z. low_of g m f z p ≡ true) (sym o) e))

    none_below : (r : ℕ) → r < rule → rule_of g m f r ≡ false
    none_below r l = all_none (low_of g m f r) g.prods (λ p lp. fails (low_of g m f r p) (λ e. elim (no_lower r p lp e) [ inl k ↦ omega arith | inr (k, j) ↦ omega arith ]))

    pub lowest_passes : g.rules ≤ rule → FirstBelow (rule_of g m f) g.rules false rule
    lowest_passes le = first_none (rule_of g m f) g.rules rule (λ r l. none_below r (omega arith))

    module _ (lt : rule < g.rules) where
      pub lowest_rule : FirstBelow (rule_of g m f) g.rules true rule
      lowest_rule = first_at (rule_of g m f) g.rules rule lt (some_at (low_of g m f rule) g.prods lower (w.is_prod lt) (w.is_low lt)) none_below

      pub lowest_low : FirstBelow (low_of g m f rule) g.prods true lower
      lowest_low = first_at (low_of g m f rule) g.prods lower (w.is_prod lt) (w.is_low lt) (λ p l. fails (low_of g m f rule p) (λ e. elim (no_lower rule p (omega (arith, w.is_prod lt)) e) [ inl k ↦ omega arith | inr (k, j) ↦ omega arith ]))
