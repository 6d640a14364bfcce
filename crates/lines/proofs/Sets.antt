-- The rising numbers of a set, one more at a time.
use mathlib.Core.Bool.{Bool, true, false, cond, not, ◌||◌, or-true, or-false}
use mathlib.Core.List.{List, [], ◌∷◌, ◌++◌, map, append_assoc, append-nil}
use mathlib.Core.Path.{◌≡◌, refl, sym, ap, ◌∙◌, subst}
use Prim.Native.Nat.{ℕ, zero, suc, ◌+◌, ◌≤◌, ◌<◌}
use native.Mathlib.Nat.{le_antisymm, le_refl, eq-or-lt_of_le, le_of_suc-le-suc}
use native.Mathlib.Numerals.{add-one}
use native.Mathlib.Omega.{arith}
use lib.ListN.{length, length-append}
use mathlib.Core.Logic.{⊎_elim}
use borrow.Author.Tests.{not-true, not-false}
use Rattle.rows.specs.Marks.{place, mark}
use Rattle.lines.specs.Text.{decimal, members, after, between, spaced}
use Rattle.tables.specs.Append.{Appended}
use Rattle.lines.specs.Append.{Room, added, Row, row_of}
use Rattle.tables.proofs.Appending.{appended_long, appended_none, appended_then}
use Rattle.lines.proofs.Appending.{room_back, room_after}

-- whether a list has numbers
abbrev pub any : List ℕ → Bool
any [] = false
any (n ∷ ns) = true

any_snoc : (ns : List ℕ) (x : ℕ) → any (ns ++ (x ∷ [])) ≡ true
any_snoc [] x = refl
any_snoc (n ∷ ns) x = refl

after_snoc : (byte : ℕ) (ps : List (List ℕ)) (p : List ℕ) → after byte (ps ++ (p ∷ [])) ≡ after byte ps ++ (byte ∷ p)
unfolding after
after_snoc byte [] p = ap (λ z. byte ∷ z) (append-nil p)
after_snoc byte (q ∷ ps) p = ap (λ z. byte ∷ z) (ap (λ z. q ++ z) (after_snoc byte ps p) ∙ sym (append_assoc q (after byte ps) (byte ∷ p)))

map_snoc : (ns : List ℕ) (x : ℕ) → map decimal (ns ++ (x ∷ [])) ≡ map decimal ns ++ (decimal x ∷ [])
map_snoc [] x = refl
map_snoc (n ∷ ns) x = ap (λ z. decimal n ∷ z) (map_snoc ns x)

spaced_snoc : (ns : List ℕ) (x : ℕ) → spaced (ns ++ (x ∷ [])) ≡ spaced ns ++ added true (any ns) x
unfolding spaced between after added
spaced_snoc [] x = append-nil (decimal x)
spaced_snoc (n ∷ ns) x = ap (λ z. decimal n ++ after 32 z) (map_snoc ns x) ∙ ap (λ z. decimal n ++ z) (after_snoc 32 (map decimal ns) (decimal x)) ∙ sym (append_assoc (decimal n) (after 32 (map decimal ns)) (32 ∷ decimal x))

module _ (f : ℕ → Bool) where
  -- one number more
  pub members_more : (n : ℕ) (b : Bool) → f n ≡ b → members (suc n) f ≡ cond b (members n f ++ (n ∷ [])) (members n f)
  unfolding members
  members_more n b e = rw e

  pub spaced_more : (n : ℕ) (b : Bool) → f n ≡ b → spaced (members (suc n) f) ≡ spaced (members n f) ++ added b (any (members n f)) n
  unfolding added
  spaced_more n true e = ap spaced (members_more n true e) ∙ spaced_snoc (members n f) n
  spaced_more n false e = ap spaced (members_more n false e) ∙ sym (append-nil _)

  any_more : (n : ℕ) (b : Bool) → f n ≡ b → any (members (suc n) f) ≡ (any (members n f) || b)
  any_more n true e = ap any (members_more n true e) ∙ any_snoc (members n f) n ∙ sym (or-true (any (members n f)))
  any_more n false e = ap any (members_more n false e) ∙ sym (or-false (any (members n f)))

  -- what is written of fewer numbers is no longer
  grows : (i n : ℕ) → i ≤ n → length (spaced (members i f)) ≤ length (spaced (members n f))
  grows i zero l = rw (le_antisymm l (omega arith)) (le_refl _)
  grows i (suc n) l = ⊎_elim (λ e. rw e (le_refl _)) (λ q. omega (arith, grows i n (le_of_suc-le-suc q), ap length (spaced_more n (f n) refl), length-append (spaced (members n f)) (added (f n) (any (members n f)) n))) (eq-or-lt_of_le l)

-- the marks of row r below t are written
pub record Setting (T W : ℕ) (table : List ℕ) (r : ℕ) (ws : List ℕ) (from : ℕ) (to : List ℕ) (next : ℕ) (some : Bool) (t : ℕ) : Type 0 where
  pub high : t ≤ T
  pub made : Appended ws from (spaced (row_of t W table r)) to next
  pub told : some ≡ any (row_of t W table r)
  pub long : length to ≡ length ws

module _ (T W : ℕ) (table : List ℕ) (r : ℕ) (ws : List ℕ) (from : ℕ) where
  pub set_start : Setting T W table r ws from ws from false 0
  unfolding members between spaced
  set_start = record { high = omega arith; made = appended_none ws from; told = refl; long = refl }

  module _ (to : List ℕ) (next : ℕ) (some : Bool) (t : ℕ) (x : Setting T W table r ws from to next some t) where
    pub set_end : T ≤ t → Appended ws from (spaced (row_of T W table r)) to next
    set_end l = subst (λ k. Appended ws from (spaced (row_of k W table r)) to next) (le_antisymm x.high l) x.made

    module _ (on : Bool) (e : on ≡ mark W table r t) where
      more : spaced (row_of (suc t) W table r) ≡ spaced (row_of t W table r) ++ added on some t
      more = spaced_more (mark W table r) t on (sym e) ∙ ap (λ b. spaced (row_of t W table r) ++ added on b t) (sym x.told)

      pub set_room : t < T → Room ws from (spaced (row_of T W table r)) → Room to next (added on some t)
      set_room l room =
          let one : Room ws from (spaced (row_of (suc t) W table r)) = record { fits = omega (arith, room.fits, grows (mark W table r) (suc t) T l) } in
          room_back ws to (spaced (row_of t W table r)) (added on some t) from next (subst (λ bs. Room ws from bs) more one) x.made

      pub set_on : t < T → (to' : List ℕ) (next' : ℕ) → Appended to next (added on some t) to' next' → Setting T W table r ws from to' next' (some || on) (t + 1)
      set_on l to' next' y =
          let a = appended_then x.made y in
          record {
            high = omega arith;
            made = subst (λ bs. Appended ws from bs to' next') (sym more ∙ ap (λ k. spaced (row_of k W table r)) (sym (add-one t))) a;
            told = ap (λ b. b || on) x.told ∙ sym (any_more (mark W table r) t on (sym e)) ∙ ap (λ k. any (row_of k W table r)) (sym (add-one t));
            long = appended_long a;
          }

-- the place of a mark
pub set_in : (T W : ℕ) (table : List ℕ) (r t : ℕ) → Row T W table r → t < T → place W r t < length table
set_in T W table r t x l = omega (arith, x.fits, x.within)

-- `member`
module _ (ws : List ℕ) (from t : ℕ) (on some : Bool) where
  pub member_none : not on ≡ true → Appended ws from (added on some t) ws from
  unfolding added
  member_none e = rw (not-true on e) (appended_none ws from)

  module _ (e : not on ≡ false) where
    module _ (k : not some ≡ true) where
      is_first : added on some t ≡ decimal t
      unfolding added
      is_first = rw (not-false on e, not-true some k)

      pub first_room : Room ws from (added on some t) → Room ws from (decimal t)
      first_room r = subst (λ bs. Room ws from bs) is_first r

      pub first_made : (to : List ℕ) (m : ℕ) → Appended ws from (decimal t) to m → Appended ws from (added on some t) to m
      first_made to m x = subst (λ bs. Appended ws from bs to m) (sym is_first) x

    module _ (k : not some ≡ false) where
      is_later : added on some t ≡ (32 ∷ []) ++ decimal t
      unfolding added
      is_later = rw (not-false on e, not-false some k)

      pub space_room : (byte : ℕ) → Room ws from (added on some t) → Room ws from (byte ∷ [])
      space_room byte r = let q : Room ws from ((32 ∷ []) ++ decimal t) = subst (λ bs. Room ws from bs) is_later r in record { fits = omega (arith, q.fits) }

      module _ (mid : List ℕ) (byte n : ℕ) (x : Appended ws from (byte ∷ []) mid n) where
        pub later_room : Room ws from (added on some t) → Room mid n (decimal t)
        later_room r = room_after ws (added on some t) mid (byte ∷ []) (decimal t) from n r x (omega (arith, ap length is_later))

      pub later_made : (mid : List ℕ) (n : ℕ) → Appended ws from (32 ∷ []) mid n → (to : List ℕ) (m : ℕ) → Appended mid n (decimal t) to m → Appended ws from (added on some t) to m
      later_made mid n x to m y = subst (λ bs. Appended ws from bs to m) (sym is_later) (appended_then x y)
