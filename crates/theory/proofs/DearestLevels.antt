-- The dearest costs by depth: what derivations of n levels come to, by any way of adding that counts at most what is there.
-- A rule that still rises after R levels leads to a loop that adds cost.
use mathlib.Core.Bool.{true, false, ◌||◌, cond, false≢true}
use mathlib.Core.List.{List, [], ◌∷◌, ◌++◌, map}
use mathlib.Core.Logic.{◌⊎◌, inl, inr}
use mathlib.Core.Path.{◌≡◌, refl, sym, ap, subst}
use Prim.Native.Nat.{ℕ, zero, suc, ◌+◌, ◌≤◌, ◌<◌, max}
use native.Mathlib.Decide.{dec_le}
use native.Mathlib.Nat.{not-suc-le-zero, eq-or-lt_of_le, le_of_suc-le-suc}
use native.Mathlib.Omega.{arith}
use lib.Dec.{eqb}
use borrow.Author.Tests.{eqb-true}
use Rattle.theory.specs.Below.{count}
use Rattle.theory.specs.Grammar.{tok, rul, Form, Grammar}
use Rattle.theory.specs.Definitions.{Sentence, cost_of}
use Rattle.theory.specs.Visits.{Row, Costs}
use Rattle.theory.specs.Tables.{Proper}
use Rattle.theory.specs.DearestVisits.{form_dearest}
use Rattle.theory.proofs.Bools.{or_split, or_left, or_right, tested, passes, eqb_same}
use Rattle.theory.proofs.Count.{count_up, count_upto}
use Rattle.theory.proofs.Yields.{Yields, nil, keep, yields_append, derives→yields, by_prod, map_append}
use Rattle.theory.proofs.Cost.{cost_append}
use Rattle.theory.proofs.Pumping.{Around, GainingLoop, around_self, around_on, around_front, around_here, around_prod}

-- the highest of n numbers
abbrev pub highest : ℕ → (ℕ → ℕ) → ℕ
highest zero f = 0
highest (suc n) f = max (highest n f) (f n)

pub highest_at : (n i : ℕ) (f : ℕ → ℕ) → i < n → f i ≤ highest n f
highest_at zero i f lt = absurd (not-suc-le-zero lt)
highest_at (suc n) i f lt = elim (eq-or-lt_of_le (le_of_suc-le-suc lt)) [ inl e ↦ omega (arith, ap f e) | inr l ↦ omega (arith, highest_at n i f l) ]

pub highest_is : (n : ℕ) (f : ℕ → ℕ) → 0 < highest n f → (i : ℕ) × (i < n) × (f i ≡ highest n f)
highest_is zero f lt = absurd (not-suc-le-zero lt)
highest_is (suc n) f lt = elim (dec_le (f n) (highest n f)) [
  | yes l ↦ let r = highest_is n f (omega arith) in (r.0, omega (arith, r.1), omega (arith, r.2))
  | no l ↦ (n, omega arith, omega arith)
]

pub highest_mono : (n : ℕ) (f h : ℕ → ℕ) → ((i : ℕ) → f i ≤ h i) → highest n f ≤ highest n h
highest_mono zero f h le = omega arith
highest_mono (suc n) f h le = omega (arith, highest_mono n f h le, le n)

-- a way of adding: known only if both parts are, rising with them, and at most their sum
pub record WayToAdd (op : ℕ → ℕ → ℕ) : Type 0 where
  pub known : (x y : ℕ) → 0 < op x y → (0 < x) × (0 < y)
  pub mono : (x y z u : ℕ) → x ≤ z → y ≤ u → op x y ≤ op z u
  pub upto : (x y : ℕ) → 0 < x → 0 < y → op x y < x + y

-- what derivations of at most n levels come to
abbrev pub level_dearest : (ℕ → ℕ → ℕ) → Grammar → (ℕ → ℕ) → ℕ → Costs
level_dearest op g k zero = λ r. 0
level_dearest op g k (suc n) = λ r. highest g.prods (λ p. cond (eqb r (g.owner p)) (form_dearest op k (level_dearest op g k n) (g.body p)) 0)

module _ {op : ℕ → ℕ → ℕ} (a : WayToAdd op) where
  pub form_mono : (k : ℕ → ℕ) (c d : Costs) → ((r : ℕ) → c r ≤ d r) → (α : Form) → form_dearest op k c α ≤ form_dearest op k d α
  form_mono k c d h [] = omega arith
  form_mono k c d h (tok t ∷ α) = a.mono _ _ _ _ (omega arith) (form_mono k c d h α)
  form_mono k c d h (rul r ∷ α) = a.mono _ _ _ _ (h r) (form_mono k c d h α)

  module _ (g : Grammar) (k : ℕ → ℕ) where
    -- a production's sum is its owner's at the next level
    pub level_prod : (n p : ℕ) → p < g.prods → form_dearest op k (level_dearest op g k n) (g.body p) ≤ level_dearest op g k (suc n) (g.owner p)
    level_prod n p lt =
        subst (λ z. cond z (form_dearest op k (level_dearest op g k n) (g.body p)) 0 ≤ level_dearest op g k (suc n) (g.owner p)) (eqb_same (g.owner p))
        (highest_at g.prods p (λ q. cond (eqb (g.owner p) (g.owner q)) (form_dearest op k (level_dearest op g k n) (g.body q)) 0) lt)

    -- and a known rule has a production that comes to as much
    pub level_via : (n r : ℕ) → 0 < level_dearest op g k (suc n) r → (p : ℕ) × (p < g.prods) × (g.owner p ≡ r) × (form_dearest op k (level_dearest op g k n) (g.body p) ≡ level_dearest op g k (suc n) r)
    level_via n r lt =
        let h = highest_is g.prods (λ p. cond (eqb r (g.owner p)) (form_dearest op k (level_dearest op g k n) (g.body p)) 0) lt in
        elim (tested (eqb r (g.owner h.0))) [ inl e ↦ (h.0, h.1, sym (eqb-true r _ e), rw e at h.2) | inr e ↦ absurd (omega (arith, rw e at h.2)) ]

    next : (c d : Costs) → ((r : ℕ) → c r ≤ d r) → (r p : ℕ) → cond (eqb r (g.owner p)) (form_dearest op k c (g.body p)) 0 ≤ cond (eqb r (g.owner p)) (form_dearest op k d (g.body p)) 0
    next c d h r p = elim (tested (eqb r (g.owner p))) [ inl e ↦ rw e (form_mono k c d h (g.body p)) | inr e ↦ rw e (omega arith) ]

    pub level_rises : (n r : ℕ) → level_dearest op g k n r ≤ level_dearest op g k (suc n) r
    level_rises zero r = omega arith
    level_rises (suc n) r = highest_mono g.prods _ _ (λ p. next (level_dearest op g k n) (level_dearest op g k (suc n)) (level_rises n) r p)

    pub level_upto : (m n r : ℕ) → m ≤ n → level_dearest op g k m r ≤ level_dearest op g k n r
    level_upto m zero r l = subst (λ z. level_dearest op g k m r ≤ level_dearest op g k z r) (let e : m ≡ 0 = omega arith in e) (omega arith)
    level_upto m (suc n) r l = elim (dec_le m n) [
      | yes h ↦ omega (arith, level_upto m n r h, level_rises n r)
      | no h ↦ subst (λ z. level_dearest op g k m r ≤ level_dearest op g k z r) (let e : m ≡ suc n = omega arith in e) (omega arith)
    ]

    -- what is counted is there: some sentence costs at least as much
    form_strings : (c : Costs) → ((r : ℕ) → 0 < c r → (w : List ℕ) × Sentence g r w × (c r ≤ suc (cost_of k w))) → (α : Form) → 0 < form_dearest op k c α
        → (w : List ℕ) × Yields g α (map tok w) × (form_dearest op k c α ≤ suc (cost_of k w))
    form_strings c h [] lt = ([], nil, omega arith)
    form_strings c h (tok t ∷ α) lt =
        let s = a.known (suc (k t)) (form_dearest op k c α) lt in
        let i = form_strings c h α s.1 in
        (t ∷ i.0, keep (tok t) i.1, omega (arith, i.2, a.upto (suc (k t)) (form_dearest op k c α) s.0 s.1))
    form_strings c h (rul r ∷ α) lt =
        let s = a.known (c r) (form_dearest op k c α) lt in
        let i = form_strings c h α s.1 in
        let j = h r s.0 in
        (j.0 ++ i.0, rw map_append (yields_append (derives→yields j.1) i.1), omega (arith, i.2, j.2, cost_append k j.0 i.0, a.upto (c r) (form_dearest op k c α) s.0 s.1))

    pub level_sentence : (n r : ℕ) → 0 < level_dearest op g k n r → (w : List ℕ) × Sentence g r w × (level_dearest op g k n r ≤ suc (cost_of k w))
    level_sentence zero r lt = absurd (not-suc-le-zero lt)
    level_sentence (suc n) r lt =
        let v = level_via n r lt in
        let i = form_strings (level_dearest op g k n) (level_sentence n) (g.body v.0) (omega (arith, v.3)) in
        (i.0, by_prod v.0 v.1 v.2 i.1, omega (arith, v.3, i.2))

    -- a rule of the form that rises at this level; if what stands around it costs nothing, the form comes to no more than the rule
    record RisingPart (n : ℕ) (α : Form) : Type 0 where
      rule : ℕ
      adds : ℕ
      leads : Around g k α rule adds
      flat : adds ≡ 0 → form_dearest op k (level_dearest op g k (suc n)) α ≤ level_dearest op g k (suc n) rule
      fresh : level_dearest op g k n rule < level_dearest op g k (suc n) rule

    -- a form that rises at this level holds such a rule
    fresh_part : (n : ℕ) (α : Form) → 0 < form_dearest op k (level_dearest op g k (suc n)) α → (form_dearest op k (level_dearest op g k (suc n)) α ≤ form_dearest op k (level_dearest op g k n) α) ⊎ RisingPart n α
    fresh_part n [] lt = inl (omega arith)
    fresh_part n (tok t ∷ α) lt =
        let s = a.known (suc (k t)) (form_dearest op k (level_dearest op g k (suc n)) α) lt in
        elim (fresh_part n α s.1) [
          | inl l ↦ inl (a.mono _ _ _ _ (omega arith) l)
          | inr i ↦ inr (record {
            rule = i.rule;
            adds = k t + 0 + i.adds;
            leads = around_front (t ∷ []) (keep (tok t) nil) i.leads;
            flat = λ e. omega (arith, i.flat (omega (arith, e)), a.upto (suc (k t)) (form_dearest op k (level_dearest op g k (suc n)) α) s.0 s.1, e);
            fresh = i.fresh;
          })
        ]
    fresh_part n (rul r ∷ α) lt =
        let s = a.known (level_dearest op g k (suc n) r) (form_dearest op k (level_dearest op g k (suc n)) α) lt in
        let u = a.upto (level_dearest op g k (suc n) r) (form_dearest op k (level_dearest op g k (suc n)) α) s.0 s.1 in
        elim (dec_le (level_dearest op g k (suc n) r) (level_dearest op g k n r)) [
          | no l ↦
              let y = form_strings (level_dearest op g k (suc n)) (level_sentence (suc n)) α s.1 in
              inr (record { rule = r; adds = cost_of k y.0; leads = around_here r y.0 y.1; flat = λ e. omega (arith, e, y.2, u); fresh = omega arith })
          | yes l ↦ elim (fresh_part n α s.1) [
            | inl m ↦ inl (a.mono _ _ _ _ l m)
            | inr i ↦
                let y = level_sentence (suc n) r s.0 in
                inr (record {
                  rule = i.rule;
                  adds = cost_of k y.0 + i.adds;
                  leads = around_front y.0 (derives→yields y.1) i.leads;
                  flat = λ e. omega (arith, i.flat (omega (arith, e)), u, y.2, e);
                  fresh = i.fresh;
                })
          ]
        ]

    -- s was met on the way from `from` to r: it came to `was` then, and at this level it comes to less; if what was added since costs nothing, r comes to that
    record Met (from r n s : ℕ) : Type 0 where
      was : ℕ
      into : ℕ
      since : ℕ
      first : Around g k (rul from ∷ []) s into
      then : Around g k (rul s ∷ []) r since
      flat : since ≡ 0 → was ≤ level_dearest op g k (suc n) r
      fell : level_dearest op g k (suc n) s < was

    -- met again: a loop that adds cost
    met_loop : {from r n : ℕ} → level_dearest op g k n r < level_dearest op g k (suc n) r → Met from r n r → GainingLoop g k from
    met_loop {from} {r} {n} f m = go m.since refl
      where
        go : (e : ℕ) → m.since ≡ e → GainingLoop g k from
        go zero e = absurd (omega (arith, m.flat e, m.fell))
        go (suc e) d =
            let w = level_sentence (suc n) r (omega arith) in
            record { at = r; into = m.into; gain = e; leads = m.first; turns = subst (λ z. Around g k (rul r ∷ []) r z) d m.then; ends = (w.0, w.1) }

    -- one level further down
    met_on : {from r q n s d : ℕ} → Around g k (rul r ∷ []) q d → (d ≡ 0 → level_dearest op g k (suc (suc n)) r ≤ level_dearest op g k (suc n) q) → Met from r (suc n) s → Met from q n s
    met_on {n = n} {s = s} l h m = record {
      was = m.was;
      into = m.into;
      since = _;
      first = m.first;
      then = around_on m.then l;
      flat = λ e. omega (arith, m.flat (omega (arith, e)), h (omega (arith, e)));
      fell = omega (arith, m.fell, level_rises (suc n) s);
    }

    full : (R r : ℕ) (S : Row) → R ≤ count R S → r < R → S r ≡ true
    full R r S le lt = passes (S r) (λ e. omega (arith, count_up R S (λ q. true) r lt e refl (λ q _. refl), count_upto R (λ q. true)))

    module _ (ok : Proper g) where
      inside : (n r : ℕ) → 0 < level_dearest op g k n r → r < g.rules
      inside zero r lt = absurd (not-suc-le-zero lt)
      inside (suc n) r lt = let v = level_via n r lt in subst (λ z. z < g.rules) v.2 (ok.owner v.0 v.1)

      -- down from a rule that rises at level n, past the rules S that were met: some rule is met again, since there are only R
      descend : (n from r d : ℕ) (S : Row) → level_dearest op g k n r < level_dearest op g k (suc n) r → g.rules ≤ n + count g.rules S → Around g k (rul from ∷ []) r d → ((s : ℕ) → S s ≡ true → Met from r n s) → GainingLoop g k from
      descend zero from r d S f le l m = met_loop f (m r (full g.rules r S (omega arith) (inside 1 r (omega arith))))
      descend (suc n) from r d S f le l m =
          let v = level_via (suc n) r (omega arith) in
          elim (tested (S r)) [
            | inl e ↦ met_loop f (m r e)
            | inr e ↦ elim (fresh_part n (g.body v.0) (omega (arith, v.3))) [
              | inl h ↦ absurd (omega (arith, v.3, h, level_prod n v.0 v.1, ap (level_dearest op g k (suc n)) v.2))
              | inr i ↦
                  let step = around_prod v.0 v.1 v.2 i.leads in
                  let flat : i.adds ≡ 0 → level_dearest op g k (suc (suc n)) r ≤ level_dearest op g k (suc n) i.rule = λ z. omega (arith, v.3, i.flat z) in
                  descend n from i.rule _ (λ q. S q || eqb q r) i.fresh
                  (omega (arith, count_up g.rules S (λ q. S q || eqb q r) r (inside (suc (suc n)) r (omega arith)) e (or_right (S r) (eqb_same r)) (λ q h. or_left _ h)))
                  (around_on l step)
                  (λ s h. elim (or_split (S s) _ h) [
                    | inl h ↦ met_on step flat (m s h)
                    | inr h ↦ subst (λ z. Met from i.rule n z) (sym (eqb-true s r h)) (record { was = level_dearest op g k (suc (suc n)) r; into = d; since = i.adds; first = l; then = step; flat = flat; fell = f })
                  ])
            ]
          ]

      -- a rule that comes to more at some level than at level R
      pub level_loop : (m r : ℕ) → level_dearest op g k g.rules r < level_dearest op g k m r → GainingLoop g k r
      level_loop zero r lt = absurd (not-suc-le-zero lt)
      level_loop (suc m) r lt = elim (dec_le (level_dearest op g k (suc m) r) (level_dearest op g k m r)) [
        | yes h ↦ level_loop m r (omega arith)
        | no h ↦ elim (dec_le g.rules m) [
          | yes j ↦ descend m r r 0 (λ s. false) (omega arith) (omega arith) (around_self r) (λ s e. absurd (false≢true e))
          | no j ↦ absurd (omega (arith, level_upto (suc m) g.rules r (omega arith)))
        ]
      ]
