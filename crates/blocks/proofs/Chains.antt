-- What a chain over a range or a list answers, as the specs say it.
use mathlib.Core.Bool.{Bool, ◌||◌, or-false, or_assoc}
use mathlib.Core.List.{List, [], ◌∷◌}
use mathlib.Core.Path.{◌≡◌, refl, sym, ◌∙◌, ap}
use Prim.Native.Nat.{ℕ, zero, suc, ◌+◌, ◌*◌, ◌-◌, ◌≤◌, ◌<◌}
use native.Mathlib.Omega.{arith}
use denote.Param.Members.{Mut, Called}
use lib.ListN.{length, take, drop, length-drop}
use lib.Seq.{length-take-le, get_or-take, get_or-drop}
use Rattle.std.specs.declared.ops.Range.{Range}
use Rattle.std.specs.Iterator.{ChecksAny}
use Rattle.std.specs.List.{list_any, range_with_len, sum}
use Rattle.std.proofs.iter.Yields.{nat_range_steps}
use Rattle.std.proofs.lemmas.Iterator.{YieldsList-from_range}
use Rattle.std.proofs.lemmas.List.Sums.{sum_by-cons}
use Rattle.std.proofs.lemmas.Iterator.Search.{any_from_yields_List}
use Rattle.theory.specs.Below.{some}
use Rattle.grammar.specs.Flat.{at}
use Rattle.blocks.specs.Layout.{total, block_sum}
use Rattle.blocks.proofs.Lists.{total_same}

-- two tests that agree below n
pub some_as : (n : ℕ) (f g : ℕ → Bool) → ((k : ℕ) → k < n → f k ≡ g k) → some n f ≡ some n g
unfolding some
some_as zero f g h = refl
some_as (suc n) f g h = rw (some_as n f g (λ k l. h k (omega arith)), h n (omega arith))

-- the first number, or one after it
some_front : (n : ℕ) (f : ℕ → Bool) → some (suc n) f ≡ (f 0 || some n (λ k. f (suc k)))
unfolding some
some_front zero f = sym (or-false (f 0))
some_front (suc n) f = rw (some_front n f) (or_assoc (f 0) (some n (λ k. f (suc k))) (f (suc n)))

any_numbers : (f : ℕ → Bool) (a n : ℕ) → list_any f (range_with_len a n) ≡ some n (λ k. f (a + k))
unfolding some
any_numbers f a zero = refl
any_numbers f a (suc n) =
    ap (λ b. f a || b) (any_numbers f (a + 1) n ∙ some_as n _ _ (λ k l. ap f (let z : a + 1 + k ≡ a + suc k = omega arith in z)))
    ∙ ap (λ z. f z || some n (λ k. f (a + suc k))) (let z : a ≡ a + 0 = omega arith in z)
    ∙ sym (some_front n (λ k. f (a + k)))

-- `any` over a range, where the closure answers the test: some number of the range passes
module _ {F : Type 0} {g : Mut F (ℕ × Unit {0}) Bool} (f : ℕ → Bool) (s u : Range ℕ) (p : F) (r : Bool) (ran : ChecksAny nat_range_steps g s p r u) (is : (x : ℕ) (b : Bool) (q : F) → Called g p (x, tt) b q → (q ≡ p) × (b ≡ f x)) where
  pub any_range : (n : ℕ) → s.end - s.start ≡ n → r ≡ some n (λ k. f (s.start + k))
  any_range n e = any_from_yields_List f u p r ran (YieldsList-from_range s.start s.end n refl e) is ∙ any_numbers f s.start n

  -- of those below n
  pub any_below : s.start ≡ 0 → r ≡ some s.end f
  any_below e = any_range s.end (omega arith) ∙ some_as s.end (λ k. f (s.start + k)) f (λ k l. ap f (omega arith))

-- `any` over the front of a list
any_list : (f : ℕ → Bool) (xs : List ℕ) → list_any f xs ≡ some (length xs) (λ k. f (at xs k))
unfolding some
any_list f [] = refl
any_list f (x ∷ xs) = ap (λ b. f x || b) (any_list f xs) ∙ sym (some_front (length xs) (λ k. f (at (x ∷ xs) k)))

pub any_front : (f : ℕ → Bool) (n : ℕ) (xs : List ℕ) → n ≤ length xs → list_any f (take n xs) ≡ some n (λ k. f (at xs k))
any_front f n xs l = any_list f (take n xs) ∙ rw (length-take-le n xs l) (some_as n _ _ (λ k m. ap f (get_or-take n xs k 0 m)))

-- the sum of a list
total_front : (n : ℕ) (f : ℕ → ℕ) → total (suc n) f ≡ f 0 + total n (λ k. f (suc k))
unfolding total
total_front zero f = omega arith
total_front (suc n) f = omega (arith, total_front n f)

sum_list : (xs : List ℕ) → sum xs ≡ total (length xs) (λ k. at xs k)
unfolding total
sum_list [] = refl
sum_list (x ∷ xs) = sum_by-cons (λ y. y) x xs ∙ ap (λ s. x + s) (sum_list xs) ∙ sym (total_front (length xs) (λ k. at (x ∷ xs) k))

pub sum_block : (file : List ℕ) (b n m r : ℕ) → m ≡ n → 512 * b + n ≤ length file → r ≡ sum (take m (drop (512 * b) file)) → r ≡ block_sum file b n
unfolding block_sum
sum_block file b n m r e l h =
    let long : length (take m (drop (512 * b) file)) ≡ n = length-take-le m (drop (512 * b) file) (omega (arith, length-drop (512 * b) file)) ∙ e in
    h ∙ sum_list (take m (drop (512 * b) file)) ∙ rw long (total_same _ _ n (λ k l. get_or-take m (drop (512 * b) file) k 0 (omega arith) ∙ get_or-drop (512 * b) file k 0))
