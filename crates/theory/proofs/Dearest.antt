-- The dearest costs: R rounds, then rounds in which any rise goes to no bound, leave each rule's entry.
use mathlib.Core.Bool.{Bool, true, false, cond}
use mathlib.Core.List.Memᴰ
use mathlib.Core.List.{List, [], ◌∷◌, ◌++◌, map, Memᴰ}
use mathlib.Core.Logic.{◌⊎◌, inl, inr}
use mathlib.Core.Path.{◌≡◌, refl, sym, ◌∙◌, ap, subst}
use Prim.Native.Nat.{ℕ, zero, suc, ◌+◌, ◌*◌, ◌≤◌, ◌<◌, min}
use native.Mathlib.Decide.{dec_le, dec_lt}
use native.Mathlib.Nat.{not-suc-le-zero}
use native.Mathlib.Omega.{arith}
use lib.Dec.{eqb, leb, ltb}
use lib.ListN.{length}
use borrow.Author.Tests.{eqb-true, ltb-true, ltb-false, leb-true, leb-false}
use Rattle.theory.specs.Grammar.{tok, rul, Form, Grammar}
use Rattle.theory.specs.Definitions.{Sentence, Productive, cost_of}
use Rattle.theory.specs.Visits.{Costs}
use Rattle.theory.specs.Rounds.{run, Valid, Round, AllRounds, rounds, Rest}
use Rattle.theory.specs.Tables.{Proper}
use Rattle.theory.specs.Dearest.{Greatest, Unbounded, Dearest, is, unbounded, none, above}
use Rattle.theory.specs.DearestVisits.{no_bound, add_up, form_dearest, lifted, dearest_visit, dearest_cleared, ends_as}
use Rattle.theory.proofs.Bools.{tested, eqb_same}
use Rattle.theory.proofs.Yields.{Yields, nil, keep, yields_append, derives→yields, map_append, Spells, snil, stok, srul, spelled}
use Rattle.theory.proofs.Rounds.{run_keeps, rounds_keeps}
use Rattle.theory.proofs.Cost.{cost_append}
use Rattle.theory.proofs.Pumping.{Around, GainingLoop, loop_unbounded, loop_on, loop_productive, around_front, around_here, around_prod}
use Rattle.theory.proofs.DearestLevels.{level_dearest, form_mono, level_prod, level_via, level_upto, level_sentence, level_loop, highest}
use Rattle.theory.proofs.AddUp.{plus, plus_adds, addup_adds, addup_grows, cap, cap_mono, Allows, addup_allows, token_allows}

-- the entry is one number
pub dearest_one : {g : Grammar} {k : ℕ → ℕ} {r m n : ℕ} → Dearest g k r m → Dearest g k r n → m ≡ n
dearest_one (is l x) (is j y) = omega (arith, x.most y.met.0 y.met.1, y.most x.met.0 x.met.1, x.met.2, y.met.2)
dearest_one {m = m} (is l x) (unbounded u e) = let w = u (suc m) in absurd (omega (arith, x.most w.0 w.1, w.2))
dearest_one (is l x) (none h e) = absurd (h (x.met.0, x.met.1))
dearest_one (is l x) (above n j y e) = absurd (omega (arith, x.most y.met.0 y.met.1, y.met.2))
dearest_one {n = n} (unbounded u e) (is l x) = let w = u (suc n) in absurd (omega (arith, x.most w.0 w.1, w.2))
dearest_one (unbounded u e) (unbounded v f) = e ∙ sym f
dearest_one (unbounded u e) (none h f) = let w = u 0 in absurd (h (w.0, w.1))
dearest_one (unbounded u e) (above n j y f) = let w = u (suc n) in absurd (omega (arith, y.most w.0 w.1, w.2))
dearest_one (none h e) (is l x) = absurd (h (x.met.0, x.met.1))
dearest_one (none h e) (unbounded u f) = let w = u 0 in absurd (h (w.0, w.1))
dearest_one (none h e) (none i f) = e ∙ sym f
dearest_one (none h e) (above n j y f) = absurd (h (y.met.0, y.met.1))
dearest_one (above m l x e) (is j y) = absurd (omega (arith, y.most x.met.0 x.met.1, x.met.2))
dearest_one (above m l x e) (unbounded u f) = let w = u (suc m) in absurd (omega (arith, x.most w.0 w.1, w.2))
dearest_one (above m l x e) (none h f) = absurd (h (x.met.0, x.met.1))
dearest_one (above m l x e) (above n j y f) = e ∙ sym f

-- a table in which no production's sum exceeds its owner's entry allows every sentence's cost
abbrev pub Covered : Grammar → (ℕ → ℕ) → Costs → Type 0
Covered g k c = (p : ℕ) → p < g.prods → min (form_dearest add_up k c (g.body p)) no_bound ≤ c (g.owner p)

entry_allows : (s x c : ℕ) → min s no_bound ≤ x → Allows s c → Allows x c
entry_allows s x c l h = record {
  known = omega (arith, h.known);
  exact = λ e. omega (arith, h.exact (omega arith));
  bound = λ e. omega (arith, h.bound (omega arith), cap_mono s x (omega arith));
}

module _ (g : Grammar) (k : ℕ → ℕ) (c : Costs) (st : Covered g k c) where
  form_allows : {α : Form} {w : List ℕ} → Spells g α w → Allows (form_dearest add_up k c α) (cost_of k w)
  form_allows snil = record { known = omega arith; exact = λ l. omega arith; bound = λ l. omega arith }
  form_allows (stok t x) = addup_allows _ _ _ _ (token_allows (k t)) (form_allows x)
  form_allows (srul {r = r} {α = α} {u = u} {v = v} p lt o x y e) =
      subst (λ z. Allows (form_dearest add_up k c (rul r ∷ α)) z) (sym (ap (cost_of k) e ∙ cost_append k u v))
      (addup_allows (c r) (form_dearest add_up k c α) _ _ (subst (λ z. Allows (c z) (cost_of k u)) o (entry_allows _ _ _ (st p lt) (form_allows x))) (form_allows y))

  sentence_allows : (r : ℕ) (w : List ℕ) → Sentence g r w → Allows (c r) (cost_of k w)
  sentence_allows r w d =
      let h = form_allows (spelled w d) in
      record { known = (addup_adds.known (c r) 1 h.known).0; exact = λ l. omega (arith, h.exact (omega (arith, one (c r))), one (c r)); bound = λ l. omega (arith, h.bound (omega (arith, one (c r))), ap cap (one (c r))) }
    where
      one : (x : ℕ) → add_up x 1 ≡ x
      one zero = refl
      one (suc v) = omega arith

-- a rule without a loop that adds cost has a greatest cost
module _ (g : Grammar) (k : ℕ → ℕ) (ok : Proper g) where
  plus_both : (x y c d : ℕ) → c < x → d < y → c + d < plus x y
  plus_both zero y c d a b = absurd (not-suc-le-zero a)
  plus_both (suc v) zero c d a b = absurd (not-suc-le-zero b)
  plus_both (suc v) (suc u) c d a b = omega arith

  counted : {α : Form} {w : List ℕ} → Spells g α w → (n : ℕ) × (cost_of k w < form_dearest plus k (level_dearest plus g k n) α)
  counted snil = (0, omega arith)
  counted (stok t x) = let i = counted x in (i.0, plus_both (suc (k t)) _ (k t) _ (omega arith) i.1)
  counted (srul {r = r} {α = α} {u = u} {v = v} p lt o x y e) =
      let i = counted x in
      let j = counted y in
      let n = suc i.0 + j.0 in
      let one : cost_of k u < level_dearest plus g k n r = omega (arith, i.1, level_prod plus_adds g k i.0 p lt, ap (level_dearest plus g k (suc i.0)) o, level_upto plus_adds g k (suc i.0) n r (omega arith)) in
      let two : cost_of k v < form_dearest plus k (level_dearest plus g k n) α = omega (arith, j.1, form_mono plus_adds k (level_dearest plus g k j.0) (level_dearest plus g k n) (λ q. level_upto plus_adds g k j.0 n q (omega arith)) α) in
      (n, omega (arith, ap (cost_of k) e, cost_append k u v, plus_both (level_dearest plus g k n r) (form_dearest plus k (level_dearest plus g k n) α) _ _ one two))

  sentence_level : (r : ℕ) (w : List ℕ) → Sentence g r w → (n : ℕ) × (cost_of k w < level_dearest plus g k n r)
  sentence_level r w d = let i = counted (spelled w d) in (i.0, omega (arith, i.1, one (level_dearest plus g k i.0 r)))
    where
      one : (x : ℕ) → plus x 1 ≡ x
      one zero = refl
      one (suc v) = omega arith

  -- costs are without bound exactly where there is such a loop
  pub unbounded_loop : (r : ℕ) → Unbounded g k r → GainingLoop g k r
  unbounded_loop r u =
      let w = u (level_dearest plus g k g.rules r) in
      let i = sentence_level r w.0 w.1 in
      level_loop plus_adds g k ok i.0 r (omega (arith, w.2, i.1))

  upto_level : (r : ℕ) → (GainingLoop g k r → ⊥) → (w : List ℕ) → Sentence g r w → cost_of k w < level_dearest plus g k g.rules r
  upto_level r h w d =
      let i = sentence_level r w d in
      elim (dec_le (level_dearest plus g k i.0 r) (level_dearest plus g k g.rules r)) [ yes l ↦ omega (arith, i.1) | no l ↦ absurd (h (level_loop plus_adds g k ok i.0 r (omega arith))) ]

  pub greatest : (r : ℕ) → (GainingLoop g k r → ⊥) → Productive g r → (m : ℕ) × Greatest g k r m
  greatest r h x =
      let w = level_sentence plus_adds g k g.rules r (omega (arith, upto_level r h x.0 x.1)) in
      (cost_of k w.0, record { met = (w.0, w.1, refl); most = λ v d. omega (arith, w.2, upto_level r h v d) })

-- the sizes that `no_bound` rests on
pub record Limits (g : Grammar) (k : ℕ → ℕ) : Type 0 where
  pub few : g.rules ≤ 512
  pub long : (p : ℕ) → p < g.prods → length (g.body p) ≤ 16384
  pub byte : (t : ℕ) → k t ≤ 255

highest_le : (n M : ℕ) (f : ℕ → ℕ) → ((i : ℕ) → i < n → f i ≤ M) → highest n f ≤ M
highest_le zero M f h = omega arith
highest_le (suc n) M f h = omega (arith, h n (omega arith), highest_le n M f (λ i l. h i (omega arith)))

-- what a visit leaves
lifted_cases : (beyond : Bool) (n s : ℕ) → ((n < s) × (lifted beyond n s ≡ cond beyond no_bound s)) ⊎ ((s ≤ n) × (lifted beyond n s ≡ n))
lifted_cases beyond n s = elim (tested (ltb n s)) [ inl e ↦ inl (ltb-true n s e, rw e) | inr e ↦ inr (ltb-false n s e, rw e) ]

module _ (g : Grammar) (k : ℕ → ℕ) (beyond : Bool) (p : ℕ) (c : Costs) where
  abbrev sum_of : ℕ
  sum_of = min (form_dearest add_up k c (g.body p)) no_bound

  pub dearest_cases : (r : ℕ) → ((r ≡ g.owner p) × (c r < sum_of) × (dearest_visit g k beyond p c r ≡ cond beyond no_bound sum_of)) ⊎ (dearest_visit g k beyond p c r ≡ c r)
  dearest_cases r = elim (tested (eqb r (g.owner p))) [
    | inl e ↦ elim (lifted_cases beyond (c r) sum_of) [ inl h ↦ inl (eqb-true r _ e, h.0, rw e h.1) | inr h ↦ inr (rw e h.1) ]
    | inr e ↦ inr (rw e)
  ]

  at_least : sum_of ≤ cond beyond no_bound sum_of
  at_least = elim (tested beyond) [ inl e ↦ rw e (omega arith) | inr e ↦ rw e (omega arith) ]

  pub dearest_up : (r : ℕ) → c r ≤ dearest_visit g k beyond p c r
  dearest_up r = elim (dearest_cases r) [ inl e ↦ omega (arith, e.1, e.2, at_least) | inr e ↦ omega (arith, e) ]

  pub dearest_owner : sum_of ≤ dearest_visit g k beyond p c (g.owner p)
  dearest_owner = subst (λ z. sum_of ≤ cond z (lifted beyond (c (g.owner p)) sum_of) (c (g.owner p))) (sym (eqb_same (g.owner p)))
      (elim (lifted_cases beyond (c (g.owner p)) sum_of) [ inl h ↦ omega (arith, h.1, at_least) | inr h ↦ omega (arith, h.0, h.1) ])

-- a table that no visit changes
pub rest_covered : (g : Grammar) (k : ℕ → ℕ) (beyond : Bool) (c : Costs) → Rest (dearest_visit g k beyond) g.prods c → Covered g k c
rest_covered g k beyond c st p lt = omega (arith, ap (λ z. z (g.owner p)) (st p lt), dearest_owner g k beyond p c)

module _ (g : Grammar) (k : ℕ → ℕ) (beyond : Bool) where
  pub dearest_run_up : (v : List ℕ) (c : Costs) (r : ℕ) → c r ≤ run (dearest_visit g k beyond) v c r
  dearest_run_up [] c r = omega arith
  dearest_run_up (p ∷ v) c r = omega (arith, dearest_run_up v (dearest_visit g k beyond p c) r, dearest_up g k beyond p c r)

  dearest_run_reach : (v : List ℕ) (p : ℕ) → Memᴰ p v → (c : Costs) → min (form_dearest add_up k c (g.body p)) no_bound ≤ run (dearest_visit g k beyond) v c (g.owner p)
  dearest_run_reach [] p m c = absurd (Memᴰ.not-nil m)
  dearest_run_reach (q ∷ v) p m c = elim (Memᴰ.cases_cons m) [
    | inl e ↦ omega (arith, dearest_run_up v (dearest_visit g k beyond q c) (g.owner p), subst (λ z. min (form_dearest add_up k c (g.body p)) no_bound ≤ dearest_visit g k beyond z c (g.owner p)) e (dearest_owner g k beyond p c))
    | inr l ↦ omega (arith, dearest_run_reach v p l (dearest_visit g k beyond q c), form_mono addup_adds k c (dearest_visit g k beyond q c) (dearest_up g k beyond q c) (g.body p))
  ]

module _ (g : Grammar) (k : ℕ → ℕ) (ok : Proper g) (lim : Limits g k) where
  -- levels up to R stay below `no_bound`
  pub form_small : (c : Costs) (M : ℕ) → 65535 ≤ M → ((r : ℕ) → c r ≤ M) → (α : Form) → form_dearest add_up k c α ≤ M + length α
  form_small c M l h [] = omega arith
  form_small c M l h (tok t ∷ α) = omega (arith, addup_grows (suc (k t)) (form_dearest add_up k c α) (M + length α) (omega arith) (omega (arith, lim.byte t)) (form_small c M l h α))
  form_small c M l h (rul r ∷ α) = omega (arith, addup_grows (c r) (form_dearest add_up k c α) (M + length α) (omega arith) (omega (arith, h r)) (form_small c M l h α))

  level_small : (n r : ℕ) → level_dearest add_up g k n r ≤ 65535 + n * 16384
  level_small zero r = omega arith
  level_small (suc n) r =
      highest_le g.prods _ _ (λ p lt. elim (tested (eqb r (g.owner p))) [
        | inl e ↦ rw e (omega (arith, form_small (level_dearest add_up g k n) (65535 + n * 16384) (omega arith) (level_small n) (g.body p), lim.long p lt))
        | inr e ↦ rw e (omega arith)
      ])

  level_below : (n r : ℕ) → n ≤ 512 → level_dearest add_up g k n r < no_bound
  level_below n r l = omega (arith, level_small n r)

  -- a round brings the table to the next level
  pub round_reach : (beyond : Bool) (n : ℕ) → n < 512 → (v : List ℕ) → Round g.prods v → (c : Costs) → ((r : ℕ) → level_dearest add_up g k n r ≤ c r) → (r : ℕ) → level_dearest add_up g k (suc n) r ≤ run (dearest_visit g k beyond) v c r
  round_reach beyond n l v rd c h r = elim (dec_le (level_dearest add_up g k (suc n) r) 0) [
    | yes z ↦ omega arith
    | no z ↦
        let w = level_via addup_adds g k n r (omega arith) in
        omega (
          arith,
          w.3,
          level_below (suc n) r l,
          form_mono addup_adds k (level_dearest add_up g k n) c h (g.body w.0),
          subst (λ q. min (form_dearest add_up k c (g.body w.0)) no_bound ≤ run (dearest_visit g k beyond) v c q) w.2 (dearest_run_reach g k beyond v w.0 (rd.all w.0 w.1) c),
        )
  ]

  pub rounds_reach : (beyond : Bool) (vs : List (List ℕ)) (n : ℕ) → n + length vs ≤ 512 → AllRounds g.prods vs → (c : Costs) → ((r : ℕ) → level_dearest add_up g k n r ≤ c r) → (r : ℕ) → level_dearest add_up g k (n + length vs) r ≤ rounds (dearest_visit g k beyond) vs c r
  rounds_reach beyond [] n l rd c h r = subst (λ z. level_dearest add_up g k z r ≤ c r) (let e : n ≡ n + 0 = omega arith in e) (h r)
  rounds_reach beyond (v ∷ vs) n l rd c h r =
      subst (λ z. level_dearest add_up g k z r ≤ rounds (dearest_visit g k beyond) vs (run (dearest_visit g k beyond) v c) r) (let e : suc n + length vs ≡ n + suc (length vs) = omega arith in e)
      (rounds_reach beyond vs (suc n) (omega arith) rd.1 (run (dearest_visit g k beyond) v c) (round_reach beyond n (omega arith) v rd.0 c h) r)

  -- an entry below `no_bound` is what some level comes to; otherwise there is a loop that adds cost
  abbrev pub Backed : Costs → Type 0
  Backed c = (r : ℕ) → ((c r < no_bound) × (n : ℕ) × (c r ≤ level_dearest add_up g k n r)) ⊎ GainingLoop g k r

  pub cleared_backed : Backed dearest_cleared
  cleared_backed r = inl (omega arith, 0, omega arith)

  backed_sentence : (c : Costs) → Backed c → (r : ℕ) → 0 < c r → Productive g r
  backed_sentence c f r lt = elim (f r) [ inl h ↦ let w = level_sentence addup_adds g k h.1 r (omega (arith, h.2)) in (w.0, w.1) | inr l ↦ loop_productive l ]

  backed_strings : (c : Costs) → Backed c → (α : Form) → 0 < form_dearest add_up k c α → (w : List ℕ) × Yields g α (map tok w)
  backed_strings c f [] lt = ([], nil)
  backed_strings c f (tok t ∷ α) lt = let i = backed_strings c f α (addup_adds.known (suc (k t)) _ lt).1 in (t ∷ i.0, keep (tok t) i.1)
  backed_strings c f (rul r ∷ α) lt =
      let s = addup_adds.known (c r) _ lt in
      let i = backed_strings c f α s.1 in
      let j = backed_sentence c f r s.0 in
      (j.0 ++ i.0, rw map_append (yields_append (derives→yields j.1) i.1))

  -- a known sum is what some level comes to, or the form leads to a loop
  parts : (c : Costs) → Backed c → (α : Form) → 0 < form_dearest add_up k c α → ((n : ℕ) × (form_dearest add_up k c α ≤ form_dearest add_up k (level_dearest add_up g k n) α)) ⊎ ((q : ℕ) × (d : ℕ) × Around g k α q d × GainingLoop g k q)
  parts c f [] lt = inl (0, omega arith)
  parts c f (tok t ∷ α) lt = elim (parts c f α (addup_adds.known (suc (k t)) _ lt).1) [
    | inl i ↦ inl (i.0, addup_adds.mono (suc (k t)) _ (suc (k t)) _ (omega arith) i.1)
    | inr i ↦ inr (i.0, _, around_front (t ∷ []) (keep (tok t) nil) i.2, i.3)
  ]
  parts c f (rul r ∷ α) lt =
      let s = addup_adds.known (c r) (form_dearest add_up k c α) lt in
      elim (f r) [
        | inr l ↦ let y = backed_strings c f α s.1 in inr (r, _, around_here r y.0 y.1, l)
        | inl h ↦ elim (parts c f α s.1) [
          | inr i ↦ let y = backed_sentence c f r s.0 in inr (i.0, _, around_front y.0 (derives→yields y.1) i.2, i.3)
          | inl i ↦
              let n = h.1 + i.0 in
              inl (
                n,
                addup_adds.mono (c r) (form_dearest add_up k c α) (level_dearest add_up g k n r) (form_dearest add_up k (level_dearest add_up g k n) α) (omega (arith, h.2, level_upto addup_adds g k h.1 n r (omega arith)))
                    (omega (arith, i.1, form_mono addup_adds k (level_dearest add_up g k i.0) (level_dearest add_up g k n) (λ q. level_upto addup_adds g k i.0 n q (omega arith)) α)),
              )
        ]
      ]

  prod_parts : (c : Costs) → Backed c → (p : ℕ) → p < g.prods → 0 < form_dearest add_up k c (g.body p) → ((n : ℕ) × (form_dearest add_up k c (g.body p) ≤ level_dearest add_up g k n (g.owner p))) ⊎ GainingLoop g k (g.owner p)
  prod_parts c f p lt h = elim (parts c f (g.body p) h) [
    | inl i ↦ inl (suc i.0, omega (arith, i.1, level_prod addup_adds g k i.0 p lt))
    | inr i ↦ inr (loop_on (around_prod p lt refl i.2) i.3)
  ]

  -- what is above level R is a loop's
  above_loop : (n r : ℕ) → level_dearest add_up g k g.rules r < level_dearest add_up g k n r → GainingLoop g k r
  above_loop n r lt = level_loop addup_adds g k ok n r lt

  pub early_backed : (p : ℕ) → p < g.prods → (c : Costs) → Backed c → Backed (dearest_visit g k false p c)
  early_backed p lt c f r = elim (dearest_cases g k false p c r) [
    | inr e ↦ elim (f r) [ inl h ↦ inl (omega (arith, e, h.0), h.1, omega (arith, e, h.2)) | inr l ↦ inr l ]
    | inl e ↦ elim (prod_parts c f p lt (omega (arith, e.1))) [
      | inr l ↦ inr (subst (λ z. GainingLoop g k z) (sym e.0) l)
      | inl i ↦ elim (dec_lt (form_dearest add_up k c (g.body p)) no_bound) [
        | yes l ↦ inl (omega (arith, e.2), i.0, omega (arith, e.2, i.1, ap (level_dearest add_up g k i.0) e.0))
        | no l ↦ inr (above_loop i.0 r (omega (arith, i.1, ap (level_dearest add_up g k i.0) e.0, level_below g.rules r lim.few)))
      ]
    ]
  ]

  -- beyond R rounds, when every entry is at least what level R comes to
  pub record Beyond (c : Costs) : Type 0 where
    pub backed : Backed c
    pub deep : (r : ℕ) → level_dearest add_up g k g.rules r ≤ c r

  pub beyond_kept : (p : ℕ) → p < g.prods → (c : Costs) → Beyond c → Beyond (dearest_visit g k true p c)
  beyond_kept p lt c h = record { backed = backed; deep = λ r. omega (arith, h.deep r, dearest_up g k true p c r) }
    where
      backed : Backed (dearest_visit g k true p c)
      backed r = elim (dearest_cases g k true p c r) [
        | inr e ↦ elim (h.backed r) [ inl i ↦ inl (omega (arith, e, i.0), i.1, omega (arith, e, i.2)) | inr l ↦ inr l ]
        | inl e ↦ elim (prod_parts c h.backed p lt (omega (arith, e.1))) [
          | inr l ↦ inr (subst (λ z. GainingLoop g k z) (sym e.0) l)
          | inl i ↦ inr (above_loop i.0 r (omega (arith, h.deep r, e.1, i.1, ap (level_dearest add_up g k i.0) e.0)))
        ]
      ]

  -- a backed table at rest has each rule's entry
  pub backed_exact : (c : Costs) → Backed c → Covered g k c → (r : ℕ) → Dearest g k r (ends_as (c r))
  backed_exact c f st r = go (c r) refl
    where
      held : (w : List ℕ) → Sentence g r w → Allows (c r) (cost_of k w)
      held w d = sentence_allows g k c st r w d

      -- below `no_bound` there is no loop, and some sentence costs as much as the entry says
      bounded : c r < no_bound → GainingLoop g k r → ⊥
      bounded lt l = let w = loop_unbounded l (cap (c r)) in omega (arith, w.2, (held w.0 w.1).bound lt)

      reached : c r < no_bound → 0 < c r → (w : List ℕ) × Sentence g r w × (c r ≤ suc (cost_of k w))
      reached lt h = elim (f r) [
        | inl i ↦ let w = level_sentence addup_adds g k i.1 r (omega (arith, i.2)) in (w.0, w.1, omega (arith, i.2, w.2))
        | inr l ↦ absurd (bounded lt l)
      ]

      over : (v : ℕ) → c r ≡ suc v → 65534 < v → Dearest g k r (cond (leb no_bound (suc v)) 65535 65537)
      over v e l = elim (tested (leb no_bound (suc v))) [
        | inl t ↦ rw t (elim (f r) [ inl i ↦ absurd (omega (arith, leb-true no_bound (suc v) t, e, i.0)) | inr i ↦ unbounded (loop_unbounded i) refl ])
        | inr t ↦
            let lt : c r < no_bound = omega (arith, leb-false no_bound (suc v) t, e) in
            let w = reached lt (omega (arith, e)) in
            let m = greatest g k ok r (bounded lt) (w.0, w.1) in
            rw t (above m.0 (omega (arith, e, w.2, m.1.most w.0 w.1)) m.1 refl)
      ]

      go : (x : ℕ) → c r ≡ x → Dearest g k r (ends_as x)
      go zero e = none (λ h. omega (arith, e, (held h.0 h.1).known)) refl
      go (suc v) e = elim (tested (leb v 65534)) [
        | inl t ↦
            let l = leb-true v 65534 t in
            let w = reached (omega (arith, e)) (omega (arith, e)) in
            rw t (is l (record { met = (w.0, w.1, omega (arith, e, w.2, (held w.0 w.1).exact (omega (arith, e)))); most = λ u d. omega (arith, e, (held u d).exact (omega (arith, e))) }))
        | inr t ↦ rw t (over v e (leb-false v 65534 t))
      ]

  -- R rounds, then visits beyond them until none changes anything: the entries
  pub dearest_exact : (vs : List (List ℕ)) → AllRounds g.prods vs → length vs ≡ g.rules → (v : List ℕ) → Valid g.prods v
      → Rest (dearest_visit g k true) g.prods (run (dearest_visit g k true) v (rounds (dearest_visit g k false) vs dearest_cleared))
      → (r : ℕ) → Dearest g k r (ends_as (run (dearest_visit g k true) v (rounds (dearest_visit g k false) vs dearest_cleared) r))
  dearest_exact vs rd len v ok' st =
      let e = rounds (dearest_visit g k false) vs dearest_cleared in
      let l : Beyond e = record {
        backed = rounds_keeps (dearest_visit g k false) g.prods Backed early_backed vs rd dearest_cleared cleared_backed;
        deep = λ r. subst (λ z. level_dearest add_up g k z r ≤ e r) (let q : 0 + length vs ≡ g.rules = omega arith in q) (rounds_reach false vs 0 (omega (arith, lim.few)) rd dearest_cleared (λ q. omega arith) r);
      } in
      backed_exact _ (run_keeps (dearest_visit g k true) g.prods Beyond beyond_kept v ok' e l).backed (rest_covered g k true _ st)
