-- Slices, for any kind of table: their visits, that a done job has left the defined table, and when a job is done.
use mathlib.Core.Bool.{Bool, true, false, not, ◌||◌, true≢false}
use mathlib.Core.List.{List, [], ◌∷◌, ◌++◌}
use mathlib.Core.Logic.{◌⊎◌, inl, inr}
use mathlib.Core.Path.{◌≡◌, refl, sym, ◌∙◌, ap, subst}
use Prim.Native.Nat.{ℕ, zero, suc, ◌+◌, ◌*◌, ◌≤◌, ◌<◌}
use native.Mathlib.Decide.{dec_le}
use native.Mathlib.Nat.{mul-le-mul_right}
use native.Mathlib.Omega.{arith}
use lib.Dec.{eqb}
use lib.ListN.{length, length-append}
use borrow.Author.Tests.{eqb-true, eqb-false}
use Rattle.theory.specs.Fills.{Moves, Settles, turns}
use Rattle.theory.proofs.Bools.{tested}
use Rattle.theory.specs.Rounds.{run, Round, AllRounds, rounds, Rest, AnyOrder}
use Rattle.theory.proofs.Fills.{Filling, valid_append, turns_valid, moves_none, round_more, turns_round}
use Rattle.theory.proofs.Rounds.{run_append, run_still, rounds_keeps, joined, joined_valid, rounds_run, run_grows}
use Rattle.theory.specs.Slices.{Progress, fresh, ended, after, Slice, full, over, visit, up, rising, Slices, none, more}

-- rounds and one more
rounds_snoc : {S : Type 0} (step : ℕ → S → S) (vs : List (List ℕ)) (v : List ℕ) (s : S) → rounds step (vs ++ (v ∷ [])) s ≡ run step v (rounds step vs s)
rounds_snoc step [] v s = refl
rounds_snoc step (u ∷ vs) v s = rounds_snoc step vs v (run step u s)

all_snoc : {P : ℕ} (vs : List (List ℕ)) (v : List ℕ) → AllRounds P vs → Round P v → AllRounds P (vs ++ (v ∷ []))
all_snoc [] v h r = (r, tt)
all_snoc (u ∷ vs) v h r = (h.0, all_snoc vs v h.1 r)

-- a slice makes the visits asked for, fewer only when the job is or becomes done
pub made_all : {M : Type 0} {Visit : ℕ → M → Bool → M → Type 0} {P n m : ℕ} {j i : Progress} {a d : M} → Slice Visit P n j a m i d → (m ≡ n) ⊎ ((m < n) × (i.done ≡ true))
made_all full = inl refl
made_all (over {n = zero} {j = j} e) = inl refl
made_all (over {n = suc n} {j = j} e) = inr (omega arith, e)
made_all (visit x e v s) = elim (made_all s) [ inl k ↦ inl (ap suc k) | inr k ↦ inr (omega (arith, k.0), k.1) ]

-- a done job does nothing
pub done_still : {M : Type 0} {Visit : ℕ → M → Bool → M → Type 0} {P n m : ℕ} {j i : Progress} {a d : M} → Slice Visit P n j a m i d → j.done ≡ true → (m ≡ 0) × (i ≡ j) × (d ≡ a)
done_still full e = (refl, refl, refl)
done_still (over k) e = (refl, refl, refl)
done_still (visit x k v s) e = absurd (true≢false (sym e ∙ k))

-- one result: visits that make one thing make a slice that does
pub slice_one : {M : Type 0} {Visit : ℕ → M → Bool → M → Type 0} {P : ℕ} → ((p : ℕ) (a b d : M) (x y : Bool) → Visit p a x b → Visit p a y d → (x ≡ y) × (b ≡ d))
    → {n m m' : ℕ} {j i i' : Progress} {a d d' : M} → Slice Visit P n j a m i d → Slice Visit P n j a m' i' d' → (m ≡ m') × (i ≡ i') × (d ≡ d')
slice_one h full full = (refl, refl, refl)
slice_one h full (over k) = (refl, refl, refl)
slice_one h (over e) full = (refl, refl, refl)
slice_one h (over e) (over k) = (refl, refl, refl)
slice_one h (over e) (visit y k w t) = absurd (true≢false (sym e ∙ k))
slice_one h (visit x e v s) (over k) = absurd (true≢false (sym k ∙ e))
slice_one {Visit = Visit} {P = P} h (visit {n = n} {m = m} {j = j} {i = i} {a = a} {b = b} {d = d} x e v s) (visit {m = m'} {i = i'} {b = b'} {d = d'} y k w t) =
    let o = h j.next a b b' x y v w in
    let t' = subst (λ z. Slice Visit P n (after P z j) b m' i' d') (sym o.0) (subst (λ z. Slice Visit P n (after P y j) z m' i' d') (sym o.1) t) in
    let r = slice_one h s t' in
    (ap suc r.0, r.1, r.2)

-- the pieces of a slice
pub slice_append : {M : Type 0} {Visit : ℕ → M → Bool → M → Type 0} {P m : ℕ} {j i : Progress} {a b : M} → Slice Visit P m j a m i b
    → (x : Bool) (d : M) → i.done ≡ false → Visit i.next b x d → Slice Visit P (suc m) j a (suc m) (after P x i) d
slice_append full x d e v = visit x e v full
slice_append (over k) x d e v = visit x e v full
slice_append (visit y k w s) x d e v = visit y k w (slice_append s x d e v)

pub slice_stop : {M : Type 0} {Visit : ℕ → M → Bool → M → Type 0} {P m : ℕ} (n : ℕ) {j i : Progress} {a b : M} → Slice Visit P m j a m i b → m ≤ n → i.done ≡ true → Slice Visit P n j a m i b
slice_stop n full l e = over e
slice_stop n (over k) l e = over e
slice_stop zero (visit x k w s) l e = absurd (omega arith)
slice_stop (suc n) (visit x k w s) l e = visit x k w (slice_stop n s (omega arith) e)

-- visits on lent memory that make the abstract step of what it shows
pub record Sliceable {M S : Type 0} (step : ℕ → S → S) (view : M → S) (Keeps : M → M → Type 0) (P : ℕ) (Visit : ℕ → M → Bool → M → Type 0) : Type 1 where
  pub filling : Filling step view Keeps P
  pub Held : M → Type 0
  pub held : (a b : M) → Keeps a b → Held a → Held b
  pub moves : (p : ℕ) → p < P → (a b : M) (x : Bool) → Held a → Visit p a x b → Moves step view Keeps (p ∷ []) a x b

-- where the next production is
next_up : (P : ℕ) (x : Bool) (j : Progress) → (after P x j).next ≡ up P j.next
next_up P x j = elim (tested (eqb (j.next + 1) P)) [ inl e ↦ rw e | inr e ↦ rw e ]

-- a visit ends a round, or goes on
after_cases : (P : ℕ) (x : Bool) (j : Progress) → ((j.next + 1 ≡ P) × (after P x j ≡ ended (j.changed || x))) ⊎ ((j.next + 1 ≡ P → ⊥) × (after P x j ≡ record { next = j.next + 1; changed = j.changed || x; done = false }))
after_cases P x j = elim (tested (eqb (j.next + 1) P)) [ inl e ↦ inl (eqb-true (j.next + 1) P e, rw e) | inr e ↦ inr (eqb-false (j.next + 1) P e, rw e) ]

pub after_below : (P : ℕ) (x : Bool) (j : Progress) → j.next < P → (after P x j).next < P
after_below P x j l = elim (after_cases P x j) [ inl e ↦ rw e.1 (omega arith) | inr e ↦ rw e.1 (omega (arith, e.0)) ]

module _ {M S : Type 0} {step : ℕ → S → S} {view : M → S} {Keeps : M → M → Type 0} {P : ℕ} {Visit : ℕ → M → Bool → M → Type 0} (f : Sliceable step view Keeps P Visit) where
  -- the visits of a slice: in rising order, starting again at 0
  pub slice_ran : {n m : ℕ} {j i : Progress} {a d : M} → Slice Visit P n j a m i d → j.next < P → f.Held a → (view d ≡ run step (rising P j.next m) (view a)) × Keeps a d
  slice_ran (full {a = a}) l h = (refl, f.filling.same a)
  slice_ran (over {a = a} e) l h = (refl, f.filling.same a)
  slice_ran (visit {m = m} {j = j} {a = a} {b = b} {d = d} x e v s) l h =
      let o = f.moves j.next l a b x h v in
      let r = slice_ran s (after_below P x j l) (f.held a b o.keeps h) in
      (r.0 ∙ (let q : run step (rising P (after P x j).next m) (view b) ≡ run step (rising P (up P j.next) m) (step j.next (view a)) = rw (next_up P x j, o.ran) in q), f.filling.then a b d o.keeps r.1)

  -- a visit of memory at rest changes nothing
  still : (p : ℕ) → p < P → (a b : M) (x : Bool) → f.Held a → Rest step P (view a) → Visit p a x b → (x ≡ false) × (b ≡ a)
  still p l a b true h r v = let o = f.moves p l a b true h v in absurd (o.told refl (o.ran ∙ r p l))
  still p l a b false h r v = (refl, (f.moves p l a b false h v).still refl)

  -- a whole round without change makes the job done: where no visit would change anything, a slice to the end of the round does
  pub round_done : {n m : ℕ} {j i : Progress} {a d : M} → Slice Visit P n j a m i d → j.next < P → f.Held a → Rest step P (view a) → j.changed ≡ false → j.done ≡ false → P ≤ j.next + n → (i.done ≡ true) × (d ≡ a)
  round_done full l h r c e k = absurd (omega arith)
  round_done (over q) l h r c e k = absurd (true≢false (sym q ∙ e))
  round_done (visit {n = n} {m = m} {j = j} {i = i} {a = a} {b = b} {d = d} x q v s) l h r c e k =
      let o = still j.next l a b x h r v in
      let calm : (j.changed || x) ≡ false = rw (c, o.0) in
      let ih : (after P x j).changed ≡ false → (after P x j).done ≡ false → P ≤ (after P x j).next + n → (i.done ≡ true) × (d ≡ b) =
      λ y z u. round_done s (after_below P x j l) (rw o.1 h) (rw o.1 r) y z u in
      elim (after_cases P x j) [
        | inl u ↦ let w = done_still s (ap (λ (y : Progress). y.done) u.1 ∙ ap not calm) in (ap (λ (y : Progress). y.done) (w.1 ∙ u.1) ∙ ap not calm, w.2 ∙ o.1)
        | inr u ↦ let w = ih (ap (λ (y : Progress). y.changed) u.1 ∙ calm) (ap (λ (y : Progress). y.done) u.1) (omega (arith, ap (λ (y : Progress). y.next) u.1)) in (w.0, w.1 ∙ o.1)
      ]

  -- from cleared memory
  module _ {bound : ℕ} {cleared : S} {Holds Exact : S → Type 0} (any : AnyOrder step cleared P bound Holds Exact) (start : M) (begins : f.Held start) (shown : view start ≡ cleared) (inv : f.filling.Inv (view start)) where
    -- a job that is not done, after m visits: whole rounds, at most as many as the bound, each with a change, and a part of the next
    record Under (m : ℕ) (j : Progress) (b : M) : Type 0 where
      below : j.next < P
      going : j.done ≡ false
      whole : List (List ℕ)
      rounded : AllRounds P whole
      few : length whole ≤ bound
      counts : m ≡ length whole * P + j.next
      begin : M
      ran : view begin ≡ rounds step whole (view start)
      keeps : Keeps start begin
      part : Moves step view Keeps (turns false P j.next) begin j.changed b

    -- a job that is done: visits were made until none would change anything
    record Over (j : Progress) (b : M) : Type 0 where
      shut : j.done ≡ true
      settles : Settles step view Keeps P start b

    under_inv : {m : ℕ} {j : Progress} {b : M} (u : Under m j b) → f.filling.Inv (view u.begin)
    under_inv u = rw u.ran (rounds_keeps step P f.filling.Inv f.filling.climb.kept u.whole u.rounded (view start) inv)

    -- a round that changed something was not one more than the bound
    under_few : {m : ℕ} {j : Progress} {b d : M} (u : Under m j b) → Moves step view Keeps (turns false P P) u.begin true d → length u.whole < bound
    under_few {d = d} u o = elim (dec_le bound (length u.whole)) [
      | yes l ↦
          let e : view u.begin ≡ rounds step u.whole cleared = u.ran ∙ ap (rounds step u.whole) shown in
          let r : Rest step P (view u.begin) = subst (λ z. Rest step P z) (sym e) (any.settles u.whole u.rounded l) in
          absurd (o.told refl (o.ran ∙ run_still step (view u.begin) (turns false P P) (λ p k. r p ((turns_round false P).valid p k))))
      | no l ↦ omega arith
    ]

    -- a round with a change begins the next
    again : {m : ℕ} {j : Progress} {b d : M} (u : Under m j b) → j.next + 1 ≡ P → Moves step view Keeps (turns false P P) u.begin true d → Under (suc m) (ended true) d
    again {m} {j} {b} {d} u e o = record {
      below = omega arith;
      going = refl;
      whole = u.whole ++ (turns false P P ∷ []);
      rounded = all_snoc u.whole (turns false P P) u.rounded (turns_round false P);
      few = omega (arith, under_few u o, length-append u.whole (turns false P P ∷ []));
      counts = rw (length-append u.whole (turns false P P ∷ [])) (omega (arith, u.counts, e));
      begin = d;
      ran = o.ran ∙ ap (run step (turns false P P)) u.ran ∙ sym (rounds_snoc step u.whole (turns false P P) (view start));
      keeps = f.filling.then start u.begin d u.keeps o.keeps;
      part = moves_none f.filling d;
    }

    -- a round without one leaves the job done
    ends : {m : ℕ} {j : Progress} {b d : M} (u : Under m j b) → Moves step view Keeps (turns false P P) u.begin false d → Over (ended false) d
    ends {d = d} u o = record {
      shut = refl;
      settles = record {
        visits = joined u.whole;
        valid = joined_valid u.whole u.rounded;
        ran = ap view (o.still refl) ∙ u.ran ∙ rounds_run step u.whole (view start);
        keeps = subst (λ z. Keeps start z) (sym (o.still refl)) u.keeps;
        rest = rw (o.still refl) (elim (run_grows f.filling.climb (turns false P P) (turns_round false P).valid (view u.begin) (under_inv u)) [
          | inl k ↦ λ p lt. k.0 p ((turns_round false P).all p lt)
          | inr l ↦ absurd (omega (arith, ap f.filling.climb.size o.ran, ap (λ z. f.filling.climb.size (view z)) (o.still refl)))
        ]);
      };
    }

    -- one visit
    on : {m : ℕ} {j : Progress} {b d : M} (x : Bool) → Under m j b → Visit j.next b x d → Under (suc m) (after P x j) d ⊎ Over (after P x j) d
    on {m} {j} {b} {d} x u v = elim (after_cases P x j) [
      | inl k ↦ rw k.1 (turn (j.changed || x) (subst (λ n. Moves step view Keeps (turns false P n) u.begin (j.changed || x) d) k.0 longer) k.0)
      | inr k ↦ rw k.1 (inl (record {
        below = omega (arith, k.0, u.below);
        going = refl;
        whole = u.whole;
        rounded = u.rounded;
        few = u.few;
        counts = omega (arith, u.counts);
        begin = u.begin;
        ran = u.ran;
        keeps = u.keeps;
        part = longer;
      }))
    ]
      where
        longer : Moves step view Keeps (turns false P (j.next + 1)) u.begin (j.changed || x) d
        longer = round_more f.filling false j.next j.next u.below refl (under_inv u) u.part (f.moves j.next u.below b d x (f.held u.begin b u.part.keeps (f.held start u.begin u.keeps begins)) v)

        turn : (y : Bool) → Moves step view Keeps (turns false P P) u.begin y d → j.next + 1 ≡ P → Under (suc m) (ended y) d ⊎ Over (ended y) d
        turn true o e = inl (again u e o)
        turn false o e = inr (ends u o)

    slice_on : {n m t : ℕ} {j i : Progress} {a d : M} → Slice Visit P n j a m i d → Under t j a → Under (t + n) i d ⊎ Over i d
    slice_on {t = t} (full {j = j} {a = a}) u = inl (subst (λ z. Under z j a) (let e : t ≡ t + 0 = omega arith in e) u)
    slice_on (over e) u = absurd (true≢false (sym e ∙ u.going))
    slice_on {t = t} (visit {n = n} {m = m} {j = j} {i = i} {a = a} {b = b} {d = d} x e v s) u = elim (on x u v) [
      | inl w ↦ subst (λ z. Under z i d ⊎ Over i d) (let q : suc t + n ≡ t + suc n = omega arith in q) (slice_on s w)
      | inr w ↦ let k = done_still s w.shut in inr (subst (λ z. Over z d) (sym k.1) (subst (λ z. Over (after P x j) z) (sym k.2) w))
    ]

    slices_over : {t : ℕ} {j i : Progress} {a d : M} → Slices Visit P t j a i d → Over j a → Over i d
    slices_over none w = w
    slices_over (more {j = j} {i = i} {b = b} n e s r) w =
        let k = done_still s w.shut in
        slices_over r (subst (λ z. Over z b) (sym k.1) (subst (λ z. Over j z) (sym k.2) w))

    slices_on : {s t : ℕ} {j i : Progress} {a d : M} → Slices Visit P s j a i d → Under t j a → Under (t + s) i d ⊎ Over i d
    slices_on {t = t} (none {j = j} {a = a}) u = inl (subst (λ z. Under z j a) (let e : t ≡ t + 0 = omega arith in e) u)
    slices_on {s = s} {t = t} (more {s = r} {j = j} {i = i} {k = k} {a = a} {b = b} {d = d} n e x y) u = elim (slice_on x u) [
      | inl w ↦ subst (λ z. Under z k d ⊎ Over k d) (let q : t + n + r ≡ t + s = omega (arith, e) in q) (slices_on y w)
      | inr w ↦ inr (slices_over y w)
    ]

    begun : 0 < P → Under 0 fresh start
    begun l = record {
      below = l;
      going = refl;
      whole = [];
      rounded = tt;
      few = omega arith;
      counts = omega arith;
      begin = start;
      ran = refl;
      keeps = f.filling.same start;
      part = moves_none f.filling start;
    }

    module _ (some : 0 < P) {t : ℕ} {i : Progress} {d : M} (s : Slices Visit P t fresh start i d) where
      -- a done job has made visits until none would change anything
      pub done_settles : i.done ≡ true → Settles step view Keeps P start d
      done_settles e = elim (slices_on s (begun some)) [ inl u ↦ absurd (true≢false (sym e ∙ u.going)) | inr w ↦ w.settles ]

      -- at every moment what the memory shows is true
      pub slices_hold : Holds (view d)
      slices_hold = elim (slices_on s (begun some)) [
        | inl u ↦
            let v = joined u.whole ++ turns false P i.next in
            let q : view d ≡ run step v cleared = u.part.ran ∙ ap (run step (turns false P i.next)) (u.ran ∙ rounds_run step u.whole (view start)) ∙ sym (run_append step (joined u.whole) (turns false P i.next) (view start)) ∙ ap (run step v) shown in
            rw q (any.always v (valid_append {v = joined u.whole} (joined_valid u.whole u.rounded) (turns_valid false P i.next (omega (arith, u.below)))))
        | inr w ↦
            let k = w.settles in
            let q : view d ≡ run step k.visits cleared = k.ran ∙ ap (run step k.visits) shown in
            rw q (any.always k.visits k.valid)
      ]

      -- after one round more than the bound the job is done, however the visits are divided into slices
      pub done_by : (bound + 1) * P ≤ t → i.done ≡ true
      done_by l = elim (slices_on s (begun some)) [
        | inl u ↦ let few : length u.whole * P ≤ bound * P = mul-le-mul_right P u.few in absurd (omega (arith, u.counts, u.below))
        | inr w ↦ w.shut
      ]
