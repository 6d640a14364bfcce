-- Visits one after another: where the job stands after each, and what the loop over them owes.
use mathlib.Core.Bool.{Bool, true, false, not, cond, ◌||◌}
use mathlib.Core.Path.{◌≡◌, refl, sym, ◌∙◌, ap, subst}
use Prim.Native.Nat.{ℕ, suc, ◌+◌, ◌≤◌, ◌<◌}
use native.Mathlib.Numerals.{add-one}
use lib.Dec.{eqb}
use lib.ListN.{length}
use borrow.Author.Tests.{eq-eqb, ne_eqb}
use Rattle.theory.specs.Slices.{Progress, after, Slice, full}
use Rattle.theory.proofs.Slices.{slice_append, slice_stop, after_below}
use Rattle.grammar.specs.Flat.{Flat}
use Rattle.jobs.specs.Kinds.{Tables, read_of, Kind, first, follow, productive, cost, kind_of, Held, Became, Visit, Ready}
use Rattle.jobs.specs.declared.inner.Stand.{Stand}
use Rattle.jobs.specs.Calls.{progress, stands, Workable}

-- `moved`
module _ (P next w : ℕ) (changed got : Bool) (ew : w ≡ next) where
  pub moved_end : w + 1 ≡ P → progress 0 false (not (changed || got)) ≡ after P got (progress next changed false)
  moved_end e = rw (eq-eqb (next + 1) P (ap (λ z. z + 1) (sym ew) ∙ e))

  pub moved_on : (w + 1 ≡ P → ⊥) → progress (next + 1) (changed || got) false ≡ after P got (progress next changed false)
  moved_on e = rw (ne_eqb (next + 1) P (λ k. e (ap (λ z. z + 1) ew ∙ k)))

-- a visit keeps the kind's tables of their lengths
pub held_on : (k : Kind) (g : Flat) (p : ℕ) (a : Tables) (x : Bool) (b : Tables) → Held k g a → Visit k g p a x b → Held k g b
held_on first g p a x b h v = record { first = v.became.step.first.sized; empty = v.became.step.empty.sized }
held_on (follow read) g p a x b h v = record { firsts = h.firsts; reached = h.reached; follows = v.became.step.sized }
held_on productive g p a x b h v = v.became.step.sized
held_on cost g p a x b h v = v.became.step.long ∙ h

-- every table is as long as it was
pub record Long (a b : Tables) : Type 0 where
  pub first : length b.first ≡ length a.first
  pub empty : length b.empty ≡ length a.empty
  pub follow : length b.follow ≡ length a.follow
  pub productive : length b.productive ≡ length a.productive
  pub cost : length b.cost ≡ length a.cost

long_same : (a : Tables) → Long a a
long_same a = record { first = refl; empty = refl; follow = refl; productive = refl; cost = refl }

long_then : (a b d : Tables) → Long a b → Long b d → Long a d
long_then a b d x y = record {
  first = y.first ∙ x.first;
  empty = y.empty ∙ x.empty;
  follow = y.follow ∙ x.follow;
  productive = y.productive ∙ x.productive;
  cost = y.cost ∙ x.cost;
}

long_on : (k : Kind) (g : Flat) (p : ℕ) (a : Tables) (x : Bool) (b : Tables) → Held k g a → Visit k g p a x b → Long a b
long_on first g p a x b h v = record {
  first = v.became.step.first.sized.len ∙ sym h.first.len;
  empty = v.became.step.empty.sized.len ∙ sym h.empty.len;
  follow = ap (λ (z : Tables). length z.follow) v.became.others;
  productive = ap (λ (z : Tables). length z.productive) v.became.others;
  cost = ap (λ (z : Tables). length z.cost) v.became.others;
}
long_on (follow read) g p a x b h v = record {
  first = ap (λ (z : Tables). length z.first) v.became.others;
  empty = ap (λ (z : Tables). length z.empty) v.became.others;
  follow = v.became.step.sized.len ∙ sym h.follows.len;
  productive = ap (λ (z : Tables). length z.productive) v.became.others;
  cost = ap (λ (z : Tables). length z.cost) v.became.others;
}
long_on productive g p a x b h v = record {
  first = ap (λ (z : Tables). length z.first) v.became.others;
  empty = ap (λ (z : Tables). length z.empty) v.became.others;
  follow = ap (λ (z : Tables). length z.follow) v.became.others;
  productive = v.became.step.sized.len ∙ sym h.len;
  cost = ap (λ (z : Tables). length z.cost) v.became.others;
}
long_on cost g p a x b h v = record {
  first = ap (λ (z : Tables). length z.first) v.became.others;
  empty = ap (λ (z : Tables). length z.empty) v.became.others;
  follow = ap (λ (z : Tables). length z.follow) v.became.others;
  productive = ap (λ (z : Tables). length z.productive) v.became.others;
  cost = v.became.step.long;
}

-- and the kind: FOLLOW reads what it read
pub kind_on : (n : ℕ) (g : Flat) (p : ℕ) (a : Tables) (x : Bool) (b : Tables) → Visit (kind_of n a) g p a x b → kind_of n b ≡ kind_of n a
kind_on n g p a x b v = go (eqb n 0) (eqb n 2) (eqb n 3) v.became
  where
    go : (q0 q2 q3 : Bool) → Became (cond q0 first (cond q2 (follow (read_of a)) (cond q3 productive cost))) g p a b
        → cond q0 first (cond q2 (follow (read_of b)) (cond q3 productive cost))
        ≡ cond q0 first (cond q2 (follow (read_of a)) (cond q3 productive cost))
    go true q2 q3 s = refl
    go false true q3 s = ap (λ (z : Tables). follow (read_of z)) s.others
    go false false q3 s = refl

-- the loop so far: `made` visits from where the job stood
pub record Working (kind : ℕ) (g : Flat) (from : Stand) (t : Tables) (at : Stand) (now : Tables) (made : ℕ) : Type 0 where
  pub begun : Workable (kind_of kind t) g at.next now
  pub same : kind_of kind now ≡ kind_of kind t
  pub long : Long t now
  pub sliced : Slice (Visit (kind_of kind t) g) (length g.owners) made (stands from) t made (stands at) now

module _ (kind : ℕ) (g : Flat) (from : Stand) (t : Tables) where
  pub working_start : Workable (kind_of kind t) g from.next t → Working kind g from t from t 0
  working_start w = record { begun = w; same = refl; long = long_same t; sliced = full }

  module _ (at : Stand) (now : Tables) (made : ℕ) (w : Working kind g from t at now made) where
    pub working_ready : (p : ℕ) → p ≡ at.next → Ready (kind_of kind now) g p now
    working_ready p e = record { well = w.begun.well; is_prod = rw e w.begun.below; held = subst (λ z. Held z g now) (sym w.same) w.begun.held }

    pub working_on : at.done ≡ false → (p : ℕ) → p ≡ at.next → (got : Bool) (to : Tables) → Visit (kind_of kind now) g p now got to
        → (at' : Stand) → stands at' ≡ after (length g.owners) got (progress at.next at.changed false) → Working kind g from t at' to (made + 1)
    working_on go p ep got to v at' e =
        let v' : Visit (kind_of kind t) g at.next now got to = subst (λ z. Visit (kind_of kind t) g z now got to) ep (subst (λ z. Visit z g p now got to) w.same v) in
        record {
          begun = record {
            well = w.begun.well;
            below = subst (λ (z : Progress). z.next < length g.owners) (sym e) (after_below (length g.owners) got (progress at.next at.changed false) w.begun.below);
            held = held_on (kind_of kind t) g at.next now got to w.begun.held v';
          };
          same = kind_on kind g p now got to v ∙ w.same;
          long = long_then t now to w.long (long_on (kind_of kind t) g at.next now got to w.begun.held v');
          sliced = subst (λ z. Slice (Visit (kind_of kind t) g) (length g.owners) z (stands from) t z (stands at') to) (sym (add-one made))
              (subst (λ z. Slice (Visit (kind_of kind t) g) (length g.owners) (suc made) (stands from) t (suc made) z to) (sym e) (slice_append w.sliced got to go v'));
        }

    -- a job that is done stops
    pub working_stop : (n : ℕ) → made ≤ n → at.done ≡ true → Slice (Visit (kind_of kind t) g) (length g.owners) n (stands from) t made (stands at) now
    working_stop n l e = slice_stop n w.sliced l e

    -- all visits were made
    pub working_end : (n : ℕ) → n ≡ made → Slice (Visit (kind_of kind t) g) (length g.owners) n (stands from) t n (stands at) now
    working_end n e = rw e w.sliced
