-- What the returns of a slice owe, from what `check` and the tests on the way answered.
use mathlib.Core.Bool.{Bool, true, false, ◌||◌}
use mathlib.Core.List.{List}
use mathlib.Core.Path.{◌≡◌, refl, sym, ◌∙◌, ap, subst}
use Prim.Native.Nat.{ℕ, ◌*◌, ◌<◌}
use native.Mathlib.Omega.{arith}
use lib.Dec.{leb}
use lib.ListN.{length}
use borrow.Author.Tests.{leb-false}
use Rattle.theory.proofs.Bools.{or_none}
use Rattle.theory.specs.Slices.{Slice}
use Rattle.grammar.specs.Flat.{Flat}
use Rattle.grammar.specs.Outcome.{Outcome, answers, refused, unless}
use Rattle.grammar.specs.Production.{check_of}
use Rattle.grammar.proofs.Lowest.{after_well}
use Rattle.grammar.proofs.Outcomes.{not_both, refused_one, answers_one}
use Rattle.grammar.proofs.Well.{well}
use Rattle.rows.specs.Marks.{Small}
use Rattle.tables.specs.Call.{Call}
use Rattle.tables.specs.Entry.{ByLength}
use Rattle.tables.specs.Sizes.{words, table_wrong, row_wrong, numbers_wrong}
use Rattle.tables.proofs.Asking.{table_long, row_long, numbers_long}
use Rattle.tables.proofs.AnyOrder.{unless_not}
use Rattle.tables.proofs.Calls.{call_refused, call_does, unless_is}
use Rattle.engine.specs.First.{lent as firsts, Held as FirstHeld}
use Rattle.engine.specs.Follow.{reads, lent}
use Rattle.follows.specs.Calls.{lent_wrong, LentWrong}
use Rattle.jobs.specs.declared.Job.{Job}
use Rattle.jobs.specs.declared.inner.Stand.{Stand}
use Rattle.jobs.specs.declared.kind.Kind.{Kind as Named}
use Rattle.jobs.specs.declared.kind.Kind.TheVariants.{First, Follow, Productive, Cost}
use Rattle.jobs.specs.Kinds.{Tables, tables, read_of, kind_of, kind_number, no_kind, kind_wrong, FollowHeld, Held, Visit}
use Rattle.jobs.specs.Calls.{stands, progress_of, job_at, slice_due, Lends, lends, Works, Workable}

-- `wrong`
module _ (n : Named) (R T : ℕ) (a e f r c h : List ℕ) where
  abbrev t : Tables
  t = tables a e f r c h

  pub wrong_first : n ≡ First → (x y : Bool) → ByLength (table_wrong R T) (length a) x → ByLength (row_wrong R) (length e) y → (x || y) ≡ kind_wrong (kind_of (kind_number n) t) R T t
  wrong_first q x y ex ey = rw (ex a refl, ey e refl) (ap (λ z. kind_wrong (kind_of (kind_number z) t) R T t) (sym q))

  pub wrong_follow : n ≡ Follow → (x : Bool) → LentWrong R T (length f) (length a) (length e) (length h) x → x ≡ kind_wrong (kind_of (kind_number n) t) R T t
  wrong_follow q x ex = ex (lent f (reads (firsts a e) h)) refl refl refl refl ∙ ap (λ z. kind_wrong (kind_of (kind_number z) t) R T t) (sym q)

  pub wrong_row : n ≡ Productive → (x : Bool) → ByLength (row_wrong R) (length r) x → x ≡ kind_wrong (kind_of (kind_number n) t) R T t
  wrong_row q x ex = ex r refl ∙ ap (λ z. kind_wrong (kind_of (kind_number z) t) R T t) (sym q)

  pub wrong_cost : n ≡ Cost → (x : Bool) → ByLength (numbers_wrong R) (length c) x → x ≡ kind_wrong (kind_of (kind_number n) t) R T t
  wrong_cost q x ex = ex c refl ∙ ap (λ z. kind_wrong (kind_of (kind_number z) t) R T t) (sym q)

-- every number of every table is one of 32 bits
pub record Words (t : Tables) : Type 0 where
  pub first : Small t.first
  pub empty : Small t.empty
  pub follow : Small t.follow
  pub productive : Small t.productive

one_row : (n : ℕ) → words n ≡ 1 * words n
one_row n = omega arith

-- where 7 is not due, the kind's tables are of their lengths
module _ (g : Flat) (t : Tables) (small : Words t) where
  firsts_held : (table_wrong g.rules (length g.costs) t.first || row_wrong g.rules t.empty) ≡ false → FirstHeld g.rules (length g.costs) (firsts t.first t.empty)
  firsts_held e = let s = or_none (table_wrong g.rules (length g.costs) t.first) _ e in record {
    first = record { len = table_long g.rules (length g.costs) t.first s.0; small = small.first };
    empty = record { len = row_long g.rules t.empty s.1 ∙ one_row g.rules; small = small.empty };
  }

  follow_held : lent_wrong g.rules (length g.costs) (lent t.follow (read_of t)) ≡ false → FollowHeld g (read_of t) t.follow
  follow_held e =
      let s = or_none (table_wrong g.rules (length g.costs) t.follow) _ e in
      let u = or_none (table_wrong g.rules (length g.costs) t.first) _ s.1 in
      let v = or_none (row_wrong g.rules t.empty) (row_wrong g.rules t.reached) u.1 in
      record {
        firsts = firsts_held (rw (u.0, v.0));
        reached = row_long g.rules t.reached v.1;
        follows = record { len = table_long g.rules (length g.costs) t.follow s.0; small = small.follow };
      }

  held_right : (k : Named) → kind_wrong (kind_of (kind_number k) t) g.rules (length g.costs) t ≡ false → Held (kind_of (kind_number k) t) g t
  held_right First e = firsts_held e
  held_right Follow e = follow_held e
  held_right Productive e = record { len = row_long g.rules t.productive e ∙ one_row g.rules; small = small.productive }
  held_right Cost e = numbers_long g.rules t.cost e

-- what a number was read as: where a refusal, the number is no kind's, and the refusal is 17
read_none : (b : Bool) (n m : ℕ) → refused m ≡ unless b 17 (answers n) → (b ≡ true) × (m ≡ 17)
read_none true n m e = (refl, refused_one e)
read_none false n m e = absurd (not_both (sym e))

-- `slice`
module _ (g : Flat) (n : ℕ) (j : Job) (t : Tables) (is : answers tt ≡ check_of g) where
  abbrev Sliced : Outcome ℕ → Lends → Type 0
  Sliced = Call (slice_due g j t) (Works g n j t) (lends j t)

  pub slice_kind : (m : ℕ) → refused m ≡ unless (no_kind j.kind) 17 (answers j.kind) → Sliced (refused m) (lends j t)
  slice_kind m h = let b = read_none (no_kind j.kind) j.kind m h in rw b.1 (call_refused 17 (after_well g (answers tt) _ is refl ∙ rw b.0))

  -- the number is that of kind k
  module _ (k : Named) (ek : answers (kind_number k) ≡ unless (no_kind j.kind) 17 (answers j.kind)) (w : ℕ) (ew : w ≡ j.next.0) where
    some : (no_kind j.kind ≡ false) × (answers j.kind ≡ answers (kind_number k))
    some = unless_not (no_kind j.kind) 17 (answers j.kind) (kind_number k) (sym ek)

    same : kind_number k ≡ j.kind
    same = answers_one (sym some.1)

    pub slice_17 : (m : ℕ) → refused m ≡ unless (leb (length g.owners) w) 17 (answers (tt {0})) → Sliced (refused m) (lends j t)
    slice_17 m h = let b = unless_is (leb (length g.owners) w) 17 m h in rw b.1 (call_refused 17 (after_well g (answers tt) _ is refl ∙ rw (some.0, ← ew, b.0)))

    module _ (u : answers (tt {0}) ≡ unless (leb (length g.owners) w) 17 (answers tt)) where
      near : leb (length g.owners) w ≡ false
      near = (unless_not (leb (length g.owners) w) 17 (answers (tt {0})) tt (sym u)).0

      module _ (x : Bool) (ex : x ≡ kind_wrong (kind_of (kind_number k) t) g.rules (length g.costs) t) where
        pub slice_7 : (m : ℕ) → refused m ≡ unless x 7 (answers (tt {0})) → Sliced (refused m) (lends j t)
        slice_7 m h = let b = unless_is x 7 m h in rw b.1 (call_refused 7 (after_well g (answers tt) _ is refl ∙ rw (some.0, ← ew, near, ← same, ← ex, b.0)))

        module _ (v : answers (tt {0}) ≡ unless x 7 (answers tt)) where
          q : x ≡ false
          q = (unless_not x 7 (answers (tt {0})) tt (sym v)).0

          pub slice_workable : Words t → Workable (kind_of j.kind t) g j.next.0 t
          slice_workable s = record {
            well = well g (sym is);
            below = subst (λ z. z < length g.owners) ew (leb-false (length g.owners) w near);
            held = subst (λ z. Held (kind_of z t) g t) same (held_right g t s k (sym ex ∙ q));
          }

          pub slice_does : (made : ℕ) (at : Stand) (to : Tables) → Slice (Visit (kind_of j.kind t) g) (length g.owners) n (progress_of j) t made (stands at) to
              → Sliced (answers made) (lends (job_at j.kind (stands at)) to)
          slice_does made at to s = call_does (answers made) _ (after_well g (answers tt) _ is refl ∙ rw (some.0, ← ew, near, ← same, ← ex, q))
              (record { made = made; stands = stands at; answer = refl; slice = s; job = refl })
