-- The profile: the tests on finished tables are the definitions, the first of each in turn is the least clash, and there is one verdict.
use mathlib.Core.Bool.{Bool, true, false, ◌&&◌, true≢false}
use mathlib.Core.List.Memᴰ
use mathlib.Core.List.{[], ◌∷◌, Memᴰ}
use mathlib.Core.Logic.{inl, inr, ◌↔◌}
use mathlib.Core.Path.{◌≡◌, refl, sym, ◌∙◌, ap, subst}
use Prim.Native.Nat.{ℕ, zero, suc, ◌≤◌, ◌<◌}
use native.Mathlib.Decide.{dec_lt}
use native.Mathlib.Nat.{eq-or-lt_of_le, le_of_suc-le-suc, not-suc-le-zero}
use native.Mathlib.Omega.{arith}
use lib.Dec.{eqb, ltb}
use borrow.Author.Tests.{eqb-true, eq-eqb, ne_eqb, ltb-true, lt-ltb, le-ltb}
use Rattle.theory.specs.Below.{some, FirstBelow}
use Rattle.theory.specs.Clashes.{starts_of, row_of, shares_of, pair_of, low_of, rule_of, least_of, verdict_by}
use Rattle.theory.specs.Grammar.{tok, rul, Form, Grammar, eof, Derives}
use Rattle.theory.specs.Follow.{Follow}
use Rattle.theory.specs.Profile.{Starts, own, after, Pair, Clash, shared, both, Before, LeastClash, Verdict, passes, clashes, Judged, passing, clashing}
use Rattle.theory.specs.Tables.{Proper, FirstExact, FollowExact}
use Rattle.theory.specs.Visits.{Table, Marks, nullable, first_of}
use Rattle.theory.proofs.Below.{some_at, first_at, first_none, scan_true}
use Rattle.theory.proofs.Bools.{and_split, and_join, or_split, or_left, or_right, eqb_same, tested}
use Rattle.theory.proofs.Follow.{vanishes_true, vanishes_whole, ahead_true, ahead_whole}
use Rattle.theory.proofs.Standing.{vanishes_yields, yields_vanishes, ahead_yields, yields_ahead, follow_stands}
use Rattle.theory.proofs.Yields.{yields_token, derives→yields, yields→derives}

-- what a form may start with, and whether it can vanish, by the tables
module _ (g : Grammar) (m : Marks) (h : FirstExact g m) where
  pub form_starts : (α : Form) (t : ℕ) → ((β : Form) × Derives g α (tok t ∷ β)) ↔ (first_of m α t ≡ true)
  form_starts α t = (
    (λ x. ahead_whole g m h (yields_ahead (derives→yields x.1) refl)),
    λ e. let y = ahead_yields (ahead_true g m h α t e) in (y.0, yields→derives y.1),
  )

  pub form_vanishes : (α : Form) → Derives g α [] ↔ (nullable m.empty α ≡ true)
  form_vanishes α = (
    (λ d. vanishes_whole g m h (yields_vanishes (derives→yields d) refl)),
    λ e. yields→derives (vanishes_yields (vanishes_true g m h α e)),
  )

  module _ (f : Table) (x : FollowExact g f) where
    pub starts_told : (p t : ℕ) → Starts g p t ↔ (starts_of g m f p t ≡ true)
    starts_told p t = (to, from)
      where
        to : Starts g p t → starts_of g m f p t ≡ true
        to (own β d) = or_left _ ((form_starts (g.body p) t).0 (β, d))
        to (after d k) = or_right (first_of m (g.body p) t) (and_join ((form_vanishes (g.body p)).0 d) ((x (g.owner p) t).0 k))

        from : starts_of g m f p t ≡ true → Starts g p t
        from e = elim (or_split (first_of m (g.body p) t) _ e) [
          | inl k ↦ let y = (form_starts (g.body p) t).1 k in own y.0 y.1
          | inr k ↦ let s = and_split (nullable m.empty (g.body p)) _ k in after ((form_vanishes (g.body p)).1 s.0) ((x (g.owner p) t).1 s.1)
        ]

-- tokens below T
module _ (g : Grammar) (ok : Proper g) where
  eof_below : (n t : ℕ) → Memᴰ (tok t) (rul 0 ∷ tok n ∷ []) → t ≡ n
  eof_below n t k = elim (Memᴰ.cases_cons k) [
    | inl e ↦ let z : ◌≡◌ {A = ℕ} 0 1 = cc in absurd (omega arith)
    | inr j ↦ elim (Memᴰ.cases_cons j) [ inl e ↦ cc | inr i ↦ absurd (Memᴰ.not-nil i) ]
  ]

  pub follow_below : {A t : ℕ} → Follow g A t → t < g.tokens
  follow_below {A} {t} k =
      let s = follow_stands k in
      elim (yields_token ok (derives→yields s.derived) t (Memᴰ.append_right s.before (Memᴰ.tail (Memᴰ.head refl)))) [
        | inl j ↦ omega (arith, ok.some_token, eof_below (eof g) t j)
        | inr l ↦ omega arith
      ]

  pub starts_below : (p : ℕ) → p < g.prods → (t : ℕ) → Starts g p t → t < g.tokens
  starts_below p lt t (own β d) = elim (yields_token ok (derives→yields d) t (Memᴰ.head refl)) [
    | inl j ↦ omega (arith, ok.token p lt t j)
    | inr l ↦ omega arith
  ]
  starts_below p lt t (after d k) = follow_below k

  pub clash_upto : {r p q t : ℕ} → Clash g r p q t → t < suc g.tokens
  clash_upto {q = q} {t = t} (shared k a b) = omega (arith, starts_below q k.is_prod t b)
  clash_upto (both k a b e) = omega arith

  clash_pair : {r p q t : ℕ} → Clash g r p q t → Pair g r p q
  clash_pair (shared k a b) = k
  clash_pair (both k a b e) = k

  pub clash_rule : {r p q t : ℕ} → Clash g r p q t → r < g.rules
  clash_rule c = let k = clash_pair c in subst (λ z. z < g.rules) k.higher (ok.owner _ k.is_prod)

  -- where T stands for the token of the least clash, the two share none
  pub least_none : {r p q : ℕ} → LeastClash g r p q g.tokens → (t : ℕ) → Starts g p t → Starts g q t → ⊥
  least_none {r} {p} {q} l t a b =
      let k = clash_pair l.is in
      l.least r p q t (shared k a b) (inr (refl, inr (refl, inr (refl, starts_below q k.is_prod t b))))

-- a row's marks: below T what the production may start with, at T whether it can vanish
module _ (g : Grammar) (m : Marks) (f : Table) (p t : ℕ) where
  pub row_token : t < g.tokens → row_of g m f p t ≡ starts_of g m f p t
  unfolding row_of
  row_token l = rw (lt-ltb t g.tokens l)

  pub row_vanish : g.tokens ≤ t → row_of g m f p t ≡ (eqb t g.tokens && nullable m.empty (g.body p))
  unfolding row_of
  row_vanish l = rw (le-ltb t g.tokens l)

  pub row_past : g.tokens < t → row_of g m f p t ≡ false
  row_past l = row_vanish (omega arith) ∙ rw (ne_eqb t g.tokens (λ e. omega arith))

-- two productions clash exactly where their rows share a mark
module _ (g : Grammar) (ok : Proper g) (m : Marks) (h : FirstExact g m) (f : Table) (x : FollowExact g f) where
  row_starts : (p t : ℕ) → p < g.prods → Starts g p t → row_of g m f p t ≡ true
  row_starts p t lp s = row_token g m f p t (starts_below g ok p lp t s) ∙ (starts_told g m h f x p t).0 s

  row_both : (p : ℕ) → Derives g (g.body p) [] → row_of g m f p g.tokens ≡ true
  row_both p d = row_vanish g m f p g.tokens (omega arith) ∙ and_join (eqb_same g.tokens) ((form_vanishes g m h (g.body p)).0 d)

  pub clash_told : (r p q t : ℕ) → Clash g r p q t ↔ (Pair g r p q × (shares_of g m f p q t ≡ true))
  clash_told r p q t = (to, from)
    where
      to : Clash g r p q t → Pair g r p q × (shares_of g m f p q t ≡ true)
      to (shared k a b) = (k, and_join (row_starts p t (omega (arith, k.rises, k.is_prod)) a) (row_starts q t k.is_prod b))
      to (both k a b e) = (k, subst (λ z. shares_of g m f p q z ≡ true) (sym e) (and_join (row_both p a) (row_both q b)))

      from : Pair g r p q × (shares_of g m f p q t ≡ true) → Clash g r p q t
      from (k, e) =
          let s = and_split (row_of g m f p t) _ e in
          elim (dec_lt t g.tokens) [
            | yes l ↦ shared k ((starts_told g m h f x p t).1 (sym (row_token g m f p t l) ∙ s.0)) ((starts_told g m h f x q t).1 (sym (row_token g m f q t l) ∙ s.1))
            | no l ↦
                let a = and_split (eqb t g.tokens) _ (sym (row_vanish g m f p t (omega arith)) ∙ s.0) in
                let b = and_split (eqb t g.tokens) _ (sym (row_vanish g m f q t (omega arith)) ∙ s.1) in
                both k ((form_vanishes g m h (g.body p)).1 a.1) ((form_vanishes g m h (g.body q)).1 b.1) (eqb-true t g.tokens a.0)
          ]

-- one verdict
turned : (r p q t r' p' q' t' : ℕ) → (Before r p q t r' p' q' t' → ⊥) → (Before r' p' q' t' r p q t → ⊥) → (r ≡ r') × (p ≡ p') × (q ≡ q') × (t ≡ t')
turned r p q t r' p' q' t' a b =
    let er = even r r' (λ l. a (inl l)) (λ l. b (inl l)) in
    let ep = even p p' (λ l. a (inr (er, inl l))) (λ l. b (inr (sym er, inl l))) in
    let eq = even q q' (λ l. a (inr (er, inr (ep, inl l)))) (λ l. b (inr (sym er, inr (sym ep, inl l)))) in
    let et = even t t' (λ l. a (inr (er, inr (ep, inr (eq, l))))) (λ l. b (inr (sym er, inr (sym ep, inr (sym eq, l))))) in
    (er, ep, eq, et)
  where
    even : (i j : ℕ) → (i < j → ⊥) → (j < i → ⊥) → i ≡ j
    even i j a b = elim (dec_lt i j) [ yes l ↦ absurd (a l) | no l ↦ elim (dec_lt j i) [ yes k ↦ absurd (b k) | no k ↦ omega arith ] ]

pub judged_one : (g : Grammar) (v w : Verdict) → Judged g v → Judged g w → v ≡ w
judged_one g v w (passing a) (passing b) = refl
judged_one g v w (passing a) (clashing l) = absurd (a _ _ _ _ l.is)
judged_one g v w (clashing l) (passing b) = absurd (b _ _ _ _ l.is)
judged_one g v w (clashing {r = r} {p = p} {q = q} {t = t} l) (clashing {r = r'} {p = p'} {q = q'} {t = t'} k) =
    let e = turned r p q t r' p' q' t' (k.least r p q t l.is) (l.least r' p' q' t' k.is) in
    rw (e.0, e.1, e.2, e.3)

-- the first rule, lower production, higher production and token that pass their tests
pub record Found (g : Grammar) (m : Marks) (f : Table) (r p q t : ℕ) : Type 0 where
  pub rule : FirstBelow (rule_of g m f) g.rules true r
  pub low : FirstBelow (low_of g m f r) g.prods true p
  pub high : FirstBelow (pair_of g m f p) g.prods true q
  pub token : FirstBelow (shares_of g m f p q) (suc g.tokens) true t

module _ (g : Grammar) (ok : Proper g) (m : Marks) (h : FirstExact g m) (f : Table) (x : FollowExact g f) where
  -- a clash passes each test
  passes_share : {r p q t : ℕ} → Clash g r p q t → shares_of g m f p q t ≡ true
  passes_share {r} {p} {q} {t} c = ((clash_told g ok m h f x r p q t).0 c).1

  passes_pair : {r p q t : ℕ} → Clash g r p q t → pair_of g m f p q ≡ true
  passes_pair {r} {p} {q} {t} c =
      let k = clash_pair g ok c in
      and_join (and_join (lt-ltb p q k.rises) (eq-eqb (g.owner q) (g.owner p) (k.higher ∙ sym k.lower))) (some_at (shares_of g m f p q) (suc g.tokens) t (clash_upto g ok c) (passes_share c))

  passes_low : {r p q t : ℕ} → Clash g r p q t → low_of g m f r p ≡ true
  passes_low {r} {p} {q} {t} c = let k = clash_pair g ok c in and_join (eq-eqb (g.owner p) r k.lower) (some_at (pair_of g m f p) g.prods q k.is_prod (passes_pair c))

  passes_rule : {r p q t : ℕ} → Clash g r p q t → rule_of g m f r ≡ true
  passes_rule {r} {p} {q} {t} c = let k = clash_pair g ok c in some_at (low_of g m f r) g.prods p (omega (arith, k.rises, k.is_prod)) (passes_low c)

  -- no rule passes
  pub none_passes : (n : ℕ) → FirstBelow (rule_of g m f) g.rules false n → Judged g passes
  none_passes n b = passing (λ r p q t c. true≢false (sym (passes_rule c) ∙ b.none refl r (clash_rule g ok c)))

  module _ (r p q t : ℕ) (b : Found g m f r p q t) where
    is_low : (g.owner p ≡ r) × (some g.prods (pair_of g m f p) ≡ true)
    is_low = let s = and_split (eqb (g.owner p) r) _ (b.low.passes refl) in (eqb-true (g.owner p) r s.0, s.1)

    is_pair : Pair g r p q
    is_pair =
        let s = and_split (ltb p q && eqb (g.owner q) (g.owner p)) _ (b.high.passes refl) in
        let u = and_split (ltb p q) _ s.0 in
        record { rises = ltb-true p q u.0; is_prod = b.high.below refl; lower = is_low.0; higher = eqb-true (g.owner q) (g.owner p) u.1 ∙ is_low.0 }

    earlier : (r' p' q' t' : ℕ) → Clash g r' p' q' t' → Before r' p' q' t' r p q t → ⊥
    earlier r' p' q' t' c (inl l) = true≢false (sym (passes_rule c) ∙ b.rule.first refl r' l)
    earlier r' p' q' t' c (inr (er, inl l)) = true≢false (sym (passes_low c) ∙ ap (λ z. low_of g m f z p') er ∙ b.low.first refl p' l)
    earlier r' p' q' t' c (inr (er, inr (ep, inl l))) = true≢false (sym (passes_pair c) ∙ ap (λ z. pair_of g m f z q') ep ∙ b.high.first refl q' l)
    earlier r' p' q' t' c (inr (er, inr (ep, inr (eq, l)))) =
        true≢false (sym (passes_share c) ∙ ap (λ z. shares_of g m f z q' t') ep ∙ ap (λ z. shares_of g m f p z t') eq ∙ b.token.first refl t' l)

    -- the first of each in turn is the least clash
    pub found_least : Judged g (clashes r p q t)
    found_least = clashing (record { is = (clash_told g ok m h f x r p q t).1 (is_pair, b.token.passes refl); least = earlier })

-- the first number that passes a test
least_first : (f : ℕ → Bool) (n : ℕ) → FirstBelow f n (ltb (least_of f n) n) (least_of f n)
least_first f zero = first_none f 0 0 (λ i l. absurd (not-suc-le-zero l))
least_first f (suc n) =
    let k = least_first f n in
    elim (tested (ltb (least_of f n) n)) [
      | inl a ↦ rw (a, lt-ltb (least_of f n) (suc n) (omega (arith, k.below a))) (first_at f (suc n) (least_of f n) (omega (arith, k.below a)) (k.passes a) (k.first a))
      | inr a ↦ elim (tested (f n)) [
        | inl e ↦ rw (a, e, lt-ltb n (suc n) (omega arith)) (first_at f (suc n) n (omega arith) e (k.none a))
        | inr e ↦ rw (a, e, le-ltb (suc n) (suc n) (omega arith)) (first_none f (suc n) (suc n) (λ i l. elim (eq-or-lt_of_le (le_of_suc-le-suc l)) [ inl q ↦ ap f q ∙ e | inr j ↦ k.none a i j ]))
      ]
    ]

-- a test that some number below n passes has a first one
least_of_law : (f : ℕ → Bool) (n : ℕ) → some n f ≡ true → FirstBelow f n true (least_of f n)
least_of_law f n e = scan_true f n (least_of f n) e (least_first f n)

-- there is a verdict, and the tests give it
pub verdict_judged : (g : Grammar) → Proper g → (m : Marks) → FirstExact g m → (f : Table) → FollowExact g f → Judged g (verdict_by g m f)
verdict_judged g ok m h f x =
    let r = least_of (rule_of g m f) g.rules in
    let p = least_of (low_of g m f r) g.prods in
    let q = least_of (pair_of g m f p) g.prods in
    let first = least_first (rule_of g m f) g.rules in
    elim (tested (ltb r g.rules)) [
      | inr e ↦ rw e (none_passes g ok m h f x _ (rw e at first))
      | inl e ↦
          let b : FirstBelow (rule_of g m f) g.rules true r = rw e at first in
          let low = least_of_law (low_of g m f r) g.prods (b.passes refl) in
          let high = least_of_law (pair_of g m f p) g.prods (and_split (eqb (g.owner p) r) _ (low.passes refl)).1 in
          let token = least_of_law (shares_of g m f p q) (suc g.tokens) (and_split (ltb p q && eqb (g.owner q) (g.owner p)) _ (high.passes refl)).1 in
          rw e (found_least g ok m h f x r p q (least_of (shares_of g m f p q) (suc g.tokens)) (record { rule = b; low = low; high = high; token = token }))
    ]
