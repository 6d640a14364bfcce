-- The fields of a line, one after the other.
use mathlib.Core.Bool.{Bool}
use mathlib.Core.List.{List, [], ◌∷◌, ◌++◌, append_assoc, append-nil}
use mathlib.Core.Path.{◌≡◌, refl, sym, ap, subst}
use Prim.Native.Nat.{ℕ, ◌+◌, ◌≤◌, ◌<◌}
use native.Mathlib.Decide.{dec_le}
use native.Mathlib.Omega.{arith}
use lib.ListN.{length, length-append}
use Rattle.lines.specs.Text.{decimal, after, between, spaced}
use Rattle.lines.specs.Line.{Entry, line_of, flag, price_of, priced, none_word, dear_word}
use Rattle.tables.specs.Append.{Appended}
use Rattle.lines.specs.Append.{Room, front_of, row_with, sets_of, back_of}
use Rattle.lines.proofs.Price.{price_amount, price_dear, price_none}
use Rattle.tables.proofs.Appending.{appended_then}
use Rattle.lines.proofs.Appending.{room_front, room_back, room_after}

-- two parts, whose sum is known by equation
module _ (ws : List ℕ) (from : ℕ) (all a b : List ℕ) (e : all ≡ a ++ b) where
  pub part_front : Room ws from all → Room ws from a
  part_front r = room_front ws a b from (subst (λ bs. Room ws from bs) e r)

  pub part_back : (to : List ℕ) (n : ℕ) → Room ws from all → Appended ws from a to n → Room to n b
  part_back to n r x = room_back ws to a b from n (subst (λ bs. Room ws from bs) e r) x

  pub parts_made : (mid to : List ℕ) (n m : ℕ) → Appended ws from a mid n → Appended mid n b to m → Appended ws from all to m
  parts_made mid to n m x y = subst (λ bs. Appended ws from bs to m) (sym e) (appended_then x y)

-- a line in the parts in which it is written
pub line_parts : (e : Entry) → line_of e ≡ front_of e.number e.empty ++ (sets_of e.first e.follow ++ back_of e.cost)
unfolding line_of between after front_of row_with sets_of back_of
line_parts e = simp (append_assoc, append-nil)

-- `row`
module _ (ns : List ℕ) where
  row_is : row_with ns ≡ spaced ns ++ (44 ∷ [])
  unfolding row_with
  row_is = refl

  module _ (ws : List ℕ) (from : ℕ) where
    pub row_front : Room ws from (row_with ns) → Room ws from (spaced ns)
    row_front = part_front ws from _ (spaced ns) (44 ∷ []) row_is

    pub row_back : (to bytes : List ℕ) (n : ℕ) → length bytes ≤ 1 → Room ws from (row_with ns) → Appended ws from (spaced ns) to n → Room to n bytes
    row_back to bytes n l r x = room_after ws (row_with ns) to (spaced ns) bytes from n r x (omega (arith, ap length row_is, length-append (spaced ns) (44 ∷ [])))

    pub row_made : (mid to : List ℕ) (n m : ℕ) → Appended ws from (spaced ns) mid n → Appended mid n (44 ∷ []) to m → Appended ws from (row_with ns) to m
    row_made = parts_made ws from _ (spaced ns) (44 ∷ []) row_is

-- `sets`
module _ (first follow : List ℕ) where
  sets_are : sets_of first follow ≡ row_with first ++ row_with follow
  unfolding sets_of
  sets_are = refl

  module _ (ws : List ℕ) (from : ℕ) where
    pub sets_front : Room ws from (sets_of first follow) → Room ws from (row_with first)
    sets_front = part_front ws from _ (row_with first) (row_with follow) sets_are

    pub sets_back : (to : List ℕ) (n : ℕ) → Room ws from (sets_of first follow) → Appended ws from (row_with first) to n → Room to n (row_with follow)
    sets_back = part_back ws from _ (row_with first) (row_with follow) sets_are

    pub sets_made : (mid to : List ℕ) (n m : ℕ) → Appended ws from (row_with first) mid n → Appended mid n (row_with follow) to m → Appended ws from (sets_of first follow) to m
    sets_made = parts_made ws from _ (row_with first) (row_with follow) sets_are

-- `front`
module _ (r : ℕ) (e : Bool) (ws : List ℕ) (from : ℕ) where
  front_is : (f : ℕ) → f ≡ flag e → front_of r e ≡ decimal r ++ ((44 ∷ []) ++ ((f ∷ []) ++ (44 ∷ [])))
  unfolding front_of
  front_is f q = ap (λ z. decimal r ++ (44 ∷ z ∷ 44 ∷ [])) (sym q)

  front_long : length (front_of r e) ≡ length (decimal r) + 3
  front_long = omega (arith, ap length (front_is (flag e) refl), length-append (decimal r) (44 ∷ flag e ∷ 44 ∷ []))

  module _ (room : Room ws from (front_of r e)) where
    pub front_number : Room ws from (decimal r)
    front_number = part_front ws from _ (decimal r) _ (front_is (flag e) refl) room

    module _ (w1 : List ℕ) (a : ℕ) (x : Appended ws from (decimal r) w1 a) where
      pub front_comma : (bytes : List ℕ) → length bytes ≤ 1 → Room w1 a bytes
      front_comma bytes l = room_after ws (front_of r e) w1 (decimal r) bytes from a room x (omega (arith, front_long))

      module _ (one w2 : List ℕ) (b : ℕ) (y : Appended w1 a one w2 b) (l : length one ≤ 1) (f : ℕ) where
        pub front_flag : Room w2 b (f ∷ [])
        front_flag = room_after ws (front_of r e) w2 (decimal r ++ one) (f ∷ []) from b room (appended_then x y) (omega (arith, front_long, length-append (decimal r) one))

        module _ (w3 : List ℕ) (c : ℕ) (z : Appended w2 b (f ∷ []) w3 c) where
          pub front_last : (bytes : List ℕ) → length bytes ≤ 1 → Room w3 c bytes
          front_last bytes k = room_after ws (front_of r e) w3 ((decimal r ++ one) ++ (f ∷ [])) bytes from c room (appended_then (appended_then x y) z) (omega (arith, front_long, length-append (decimal r ++ one) (f ∷ []), length-append (decimal r) one))

  pub front_made : (w1 w2 w3 to : List ℕ) (a b c m f : ℕ) → f ≡ flag e → Appended ws from (decimal r) w1 a → Appended w1 a (44 ∷ []) w2 b → Appended w2 b (f ∷ []) w3 c → Appended w3 c (44 ∷ []) to m → Appended ws from (front_of r e) to m
  front_made w1 w2 w3 to a b c m f q x y z v = parts_made ws from _ (decimal r) _ (front_is f q) w1 to a m x (appended_then y (appended_then z v))

-- `price`
pub amount_is : (n : ℕ) → n ≤ 65535 → priced (price_of n) ≡ decimal n
unfolding priced
amount_is n l = ap priced (price_amount n l)

pub dear_is : (n : ℕ) → 65535 < n → n ≤ 65536 → priced (price_of n) ≡ dear_word
unfolding priced
dear_is n l e = ap priced (price_dear n l e)

pub none_is : (n : ℕ) → 65535 < n → 65536 < n → priced (price_of n) ≡ none_word
unfolding priced
none_is n l e = ap priced (price_none n l e)

-- either word has four bytes
pub word_long : (n : ℕ) → 65535 < n → length (priced (price_of n)) ≡ 4
word_long n l = elim (dec_le n 65536) [ yes m ↦ ap length (dear_is n l m) | no m ↦ ap length (none_is n l (omega arith)) ]

module _ (n : ℕ) (ws : List ℕ) (from : ℕ) where
  pub amount_room : n ≤ 65535 → Room ws from (priced (price_of n)) → Room ws from (decimal n)
  amount_room l r = subst (λ bs. Room ws from bs) (amount_is n l) r

  pub amount_made : n ≤ 65535 → (to : List ℕ) (m : ℕ) → Appended ws from (decimal n) to m → Appended ws from (priced (price_of n)) to m
  amount_made l to m x = subst (λ bs. Appended ws from bs to m) (sym (amount_is n l)) x

  module _ (l : 65535 < n) where
    pub word_room : (bytes : List ℕ) → length bytes ≤ 4 → Room ws from (priced (price_of n)) → Room ws from bytes
    word_room bytes k r = record { fits = omega (arith, r.fits, word_long n l) }

    pub dear_made : n ≤ 65536 → (to : List ℕ) (m : ℕ) → Appended ws from dear_word to m → Appended ws from (priced (price_of n)) to m
    dear_made e to m x = subst (λ bs. Appended ws from bs to m) (sym (dear_is n l e)) x

    pub none_made : 65536 < n → (to : List ℕ) (m : ℕ) → Appended ws from none_word to m → Appended ws from (priced (price_of n)) to m
    none_made e to m x = subst (λ bs. Appended ws from bs to m) (sym (none_is n l e)) x

-- `back`
module _ (n : ℕ) (ws : List ℕ) (from : ℕ) where
  back_is : back_of (price_of n) ≡ priced (price_of n) ++ (10 ∷ [])
  unfolding back_of
  back_is = refl

  pub back_price : Room ws from (back_of (price_of n)) → Room ws from (priced (price_of n))
  back_price = part_front ws from _ (priced (price_of n)) (10 ∷ []) back_is

  pub back_feed : (to bytes : List ℕ) (m : ℕ) → length bytes ≤ 1 → Room ws from (back_of (price_of n)) → Appended ws from (priced (price_of n)) to m → Room to m bytes
  back_feed to bytes m l r x = room_after ws (back_of (price_of n)) to (priced (price_of n)) bytes from m r x (omega (arith, ap length back_is, length-append (priced (price_of n)) (10 ∷ [])))

  pub back_made : (mid to : List ℕ) (k m : ℕ) → Appended ws from (priced (price_of n)) mid k → Appended mid k (10 ∷ []) to m → Appended ws from (back_of (price_of n)) to m
  back_made = parts_made ws from _ (priced (price_of n)) (10 ∷ []) back_is
