-- Slices one after another on lent tables: a done job has left the fill's tables, and when a job is done.
use mathlib.Core.Bool.{Bool, true}
use mathlib.Core.Path.{◌≡◌, sym, ◌∙◌, ap, subst}
use Prim.Native.Nat.{ℕ, ◌+◌, ◌*◌, ◌≤◌, ◌<◌}
use Rattle.theory.specs.Fills.{Settles}
use Rattle.theory.specs.Rounds.{AnyOrder}
use Rattle.theory.proofs.Fills.{Filling}
use Rattle.theory.specs.Slices.{Progress, fresh, Slices}
use Rattle.theory.proofs.Slices.{Sliceable, done_settles, done_by, slices_hold}
use Rattle.tables.specs.Call.{Stepped}
use Rattle.tables.proofs.Stepping.{Stepping}
use Rattle.jobs.specs.Kinds.{Tables, Made}

-- a part of the tables, seen and put back
pub record Lens {A : Type 0} (get : Tables → A) (put : Tables → A → Tables) : Type 0 where
  pub same : (t : Tables) → t ≡ put t (get t)
  pub twice : (t : Tables) (x y : A) → put (put t x) y ≡ put t y

-- what slices of n visits together come to on the part: if the job is done no visit changes it, when it is done, and what it shows is true
pub record Comes {A S : Type 0} (step : ℕ → S → S) (see : A → S) (Keeps : A → A → Type 0) (P bound : ℕ) (Holds : S → Type 0) (zeros : A) (n : ℕ) (i : Progress) (d : A) : Type 0 where
  pub settles : i.done ≡ true → Settles step see Keeps P zeros d
  pub ends : (bound + 1) * P ≤ n → i.done ≡ true
  pub holds : Holds (see d)

module _ {A S : Type 0} {step : ℕ → S → S} {see : A → S} {Keeps : A → A → Type 0} {P : ℕ} {Held : A → Type 0} {Became : ℕ → A → A → Type 0} (get : Tables → A) (put : Tables → A → Tables) (l : Lens get put) (k : Stepping step see Keeps P Held Became) where
  -- the part is kept so, and the rest is as it was
  abbrev Kept : Tables → Tables → Type 0
  Kept a b = Made (Keeps (get a) (get b)) b (put a (get b))

  abbrev Visits : ℕ → Tables → Bool → Tables → Type 0
  Visits p a x b = Stepped (λ d. Made (Became p (get a) (get d)) d (put a (get d))) a x b

  abbrev filling : Filling step (λ t. see (get t)) Kept P
  filling = record {
    Inv = k.filling.Inv;
    top = k.filling.top;
    climb = k.filling.climb;
    same = λ a. record { step = k.filling.same (get a); others = l.same a };
    then = λ a b d x y. record { step = k.filling.then (get a) (get b) (get d) x.step y.step; others = y.others ∙ ap (λ t. put t (get d)) x.others ∙ l.twice a (get b) (get d) };
  }

  -- a visit that leaves what the part shows leaves all
  pub quiet : (p : ℕ) → p < P → (a b : Tables) → Held (get a) → Became p (get a) (get b) → b ≡ put a (get b) → see (get b) ≡ see (get a) → b ≡ a
  quiet p lt a b h s o q = o ∙ ap (put a) (k.unique p (get a) (get b) (get a) s (k.stays p lt (get a) h (sym (k.shows p lt (get a) (get b) s) ∙ q))) ∙ sym (l.same a)

  abbrev pub sliceable : Sliceable step (λ t. see (get t)) Kept P Visits
  sliceable = record {
    filling = filling;
    Held = λ t. Held (get t);
    held = λ a b s h. k.held (get a) (get b) s.step h;
    moves = λ p lt a b x h v. record {
      ran = k.shows p lt (get a) (get b) v.became.step;
      keeps = record { step = k.spares p lt (get a) (get b) v.became.step; others = v.became.others };
      told = λ e q. v.told e (quiet p lt a b h v.became.step v.became.others q);
      still = v.still;
    };
  }

  -- from cleared tables
  module _ {bound : ℕ} {cleared : S} {Holds Exact : S → Type 0} (any : AnyOrder step cleared P bound Holds Exact) (start : Tables) (zeros : A) (is : get start ≡ zeros) (begins : Held zeros) (shown : see zeros ≡ cleared) (inv : k.filling.Inv (see zeros)) (some : 0 < P) {n : ℕ} {i : Progress} {d : Tables} (s : Slices Visits P n fresh start i d) where
    part_done : i.done ≡ true → Settles step (λ t. see (get t)) Kept P start d
    part_done = done_settles sliceable any start (subst Held (sym is) begins) (ap see is ∙ shown) (subst (λ z. k.filling.Inv (see z)) (sym is) inv) some s

    pub part_comes : Comes step see Keeps P bound Holds zeros n i (get d)
    part_comes = record {
      settles = λ e. let x = part_done e in subst (λ z. Settles step see Keeps P z (get d)) is (record { visits = x.visits; valid = x.valid; ran = x.ran; keeps = x.keeps.step; rest = x.rest });
      ends = done_by sliceable any start (subst Held (sym is) begins) (ap see is ∙ shown) (subst (λ z. k.filling.Inv (see z)) (sym is) inv) some s;
      holds = slices_hold sliceable any start (subst Held (sym is) begins) (ap see is ∙ shown) (subst (λ z. k.filling.Inv (see z)) (sym is) inv) some s;
    }
