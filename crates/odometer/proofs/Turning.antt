-- Turning, turn by turn and carry by carry.
use mathlib.Core.List.{List, [], ◌∷◌, ◌++◌}
use mathlib.Core.Path.{◌≡◌, refl, sym, ◌∙◌, ap, ap₂, subst, subst₂}
use Prim.Native.Nat.{ℕ, suc, ◌+◌, ◌*◌, ◌-◌, ◌/◌, ◌%◌, ◌≤◌, ◌<◌}
use native.Mathlib.Nat.{mul-one, add-mul, mod-lt, div-add-mod'}
use native.Mathlib.Omega.{arith}
use lib.ListN.{length, take, drop, set, length-set, get_or}
use lib.Seq.{take-set-lt, drop-set-lt, get_or-take, get_or-drop, drop-drop, take-suc, take-suc-set, take_at, get_or_at, length-take-le}
use Rattle.theory.specs.Odometer.{product, Fits, zeros, turns, Carrying}
use Rattle.theory.proofs.Odometer.{zeros_append, product_append, turns_append, fits_parts, parts_fit, fits_length, turns_zeros, carry_start, carry_below, carry_fits, carry_turns, carry_on, carry_spills, carry_zeros}
use Rattle.odometer.specs.Turning.{Turnable, Turns}
use Rattle.std.specs.Prelude.{Option, None, Some}

-- so many turns are left
pub record Turning (bases : List ℕ) (m k : ℕ) (start todo : List ℕ) (left : ℕ) : Type 0 where
  pub few : m ≤ 16
  pub bases_long : length bases ≡ 16
  pub todo_long : length todo ≡ 16
  pub low : (j : ℕ) → j < m → get_or bases j 0 ≤ 65535
  pub fits : Fits (take m bases) (take m todo)
  pub made : turns (take m bases) (take m todo) + left ≡ k
  pub rest : drop m todo ≡ drop m start

-- a turn is on its way, at place j
pub record Turned (bases : List ℕ) (m k : ℕ) (were : List ℕ) (left : ℕ) (todo : List ℕ) (j : ℕ) : Type 0 where
  pub begun : Turning bases m k were were (suc left)
  pub todo_long : length todo ≡ 16
  pub carry : Carrying (take m bases) (take m were) j (take m todo)
  pub rest : drop m todo ≡ drop m were

length_zeros : (bs : List ℕ) → length (zeros bs) ≡ length bs
length_zeros [] = refl
length_zeros (b ∷ bs) = ap suc (length_zeros bs)

get_d_here : (n : ℕ) (l : List ℕ) → get_or (drop n l) 0 0 ≡ get_or l n 0
get_d_here n l = get_or-drop n l 0 0 ∙ ap (λ (z : ℕ). get_or l z 0) {x = n + 0} {y = n} (omega arith)

module _ (bases : List ℕ) (m k : ℕ) where
  pub turning_start : (todo : List ℕ) → Turnable bases m todo → Turning bases m k todo todo k
  turning_start todo r = record {
    few = r.few;
    bases_long = r.bases_long;
    todo_long = r.todo_long;
    low = r.low;
    fits = subst (λ z. Fits (take m bases) z) (sym r.begun) r.some;
    made = omega (arith, ap (turns (take m bases)) r.begun, turns_zeros (take m bases));
    rest = refl;
  }

  pub turning_end : (start todo : List ℕ) (left : ℕ) → Turning bases m k start todo left → left ≡ 0 → Turns bases m k start None todo
  turning_end start todo left t e = record { room = t.todo_long; shows = (t.fits, omega (arith, t.made)); rest = t.rest }

  pub turned_start : (start todo : List ℕ) (left : ℕ) → Turning bases m k start todo left → (left ≡ 0 → ⊥) → Turned bases m k todo (left - 1) todo m
  turned_start start todo left t n = record {
    begun = subst (λ (z : ℕ). Turning bases m k todo todo z) {x = left} {y = suc (left - 1)} (omega (arith, n)) (record { few = t.few; bases_long = t.bases_long; todo_long = t.todo_long; low = t.low; fits = t.fits; made = t.made; rest = refl });
    todo_long = t.todo_long;
    carry = carry_start (take m bases) (take m todo) t.fits m (sym (length-take-le m bases (omega (arith, t.few, t.bases_long))));
    rest = refl;
  }

  module _ (were : List ℕ) (left : ℕ) (todo : List ℕ) (i : ℕ) (t : Turned bases m k were left todo i) (some : i ≡ 0 → ⊥) where
    down : suc (i - 1) ≡ i
    down = omega (arith, some)

    carried : Carrying (take m bases) (take m were) (suc (i - 1)) (take m todo)
    carried = subst (λ (z : ℕ). Carrying (take m bases) (take m were) z (take m todo)) (sym down) t.carry

    inside : (i - 1) < m
    inside = omega (arith, carried.inside, length-take-le m bases (omega (arith, t.begun.few, t.begun.bases_long)))

    pub turned_place : (i - 1) < 16
    turned_place = omega (arith, inside, t.begun.few)

    pub turned_below : get_or todo (i - 1) 0 < 65535
    turned_below = omega (arith, t.begun.low (i - 1) inside, carry_below (take m bases) (take m were) t.begun.fits (i - 1) (take m todo) carried, get_or-take m todo (i - 1) 0 inside, get_or-take m bases (i - 1) 0 inside)

    shown : (v : ℕ) → take m (set todo (i - 1) v) ≡ set (take m todo) (i - 1) v
    shown v = take-set-lt m todo (i - 1) v inside

    pub turned_up : (start : List ℕ) (l₀ : ℕ) → Turning bases m k start were l₀ → get_or todo (i - 1) 0 + 1 < get_or bases (i - 1) 0 → Turning bases m k start (set todo (i - 1) (get_or todo (i - 1) 0 + 1)) left
    turned_up start l₀ t₀ l =
        let v = get_or todo (i - 1) 0 + 1 in
        let e : v ≡ suc (get_or todo (i - 1) 0) = omega arith in
        let same : v ≡ suc (get_or (take m todo) (i - 1) 0) = e ∙ ap suc (sym (get_or-take m todo (i - 1) 0 inside)) in
        record {
          few = t.begun.few;
          bases_long = t.begun.bases_long;
          todo_long = length-set todo (i - 1) v ∙ t.todo_long;
          low = t.begun.low;
          fits = subst (λ z. Fits (take m bases) z) (sym (shown v ∙ ap (set (take m todo) (i - 1)) same))
              (carry_fits (take m bases) (take m were) t.begun.fits (i - 1) (take m todo) carried (omega (arith, l, e, get_or-take m todo (i - 1) 0 inside, get_or-take m bases (i - 1) 0 inside)));
          made = omega (arith, ap (turns (take m bases)) (shown v ∙ ap (set (take m todo) (i - 1)) same), carry_turns (take m bases) (take m were) t.begun.fits (i - 1) (take m todo) carried, t.begun.made);
          rest = drop-set-lt m todo (i - 1) v inside ∙ t.rest ∙ t₀.rest;
        }

    pub turned_on : get_or bases (i - 1) 0 ≤ get_or todo (i - 1) 0 + 1 → Turned bases m k were left (set todo (i - 1) 0) (i - 1)
    turned_on l = record {
      begun = t.begun;
      todo_long = length-set todo (i - 1) 0 ∙ t.todo_long;
      carry = subst (λ z. Carrying (take m bases) (take m were) (i - 1) z) (sym (shown 0))
          (carry_on (take m bases) (take m were) t.begun.fits (i - 1) (take m todo) carried (omega (arith, l, get_or-take m todo (i - 1) 0 inside, get_or-take m bases (i - 1) 0 inside)));
      rest = drop-set-lt m todo (i - 1) 0 inside ∙ t.rest;
    }

  pub turned_spills : (were : List ℕ) (left : ℕ) (todo : List ℕ) (j : ℕ) → Turned bases m k were left todo j → j ≡ 0 → (start : List ℕ) (l₀ : ℕ) → Turning bases m k start were l₀ → Turns bases m k start (Some left) todo
  turned_spills were left todo j t e start l₀ t₀ =
      let c = subst (λ (z : ℕ). Carrying (take m bases) (take m were) z (take m todo)) e t.carry in
      record {
        room = t.todo_long;
        shows = (omega (arith, t.begun.made, carry_spills (take m bases) (take m were) t.begun.fits (take m todo) c), carry_zeros (take m bases) (take m were) t.begun.fits (take m todo) c);
        rest = t.rest ∙ t₀.rest;
      }

-- the last place set at once
module _ (bases : List ℕ) (m : ℕ) (todo : List ℕ) (ok : Turnable bases m todo) (some : m ≡ 0 → ⊥) where
  up : m ≡ suc (m - 1)
  up = omega (arith, some)

  pub show_place : m - 1 < 16
  show_place = omega (arith, some, ok.few)

  bases_parts : take m bases ≡ take (m - 1) bases ++ (get_or bases (m - 1) 0 ∷ [])
  bases_parts = ap (λ (z : ℕ). take z bases) up ∙ take-suc bases (m - 1) 0 (omega (arith, show_place, ok.bases_long))

  todo_parts : (ts : List ℕ) → length ts ≡ 16 → take m ts ≡ take (m - 1) ts ++ (get_or ts (m - 1) 0 ∷ [])
  todo_parts ts l = ap (λ (z : ℕ). take z ts) up ∙ take-suc ts (m - 1) 0 (omega (arith, show_place))

  front_long : (ts : List ℕ) → length ts ≡ 16 → length (take (m - 1) ts) ≡ length (take (m - 1) bases)
  front_long ts l = length-take-le (m - 1) ts (omega (arith, show_place)) ∙ sym (length-take-le (m - 1) bases (omega (arith, show_place, ok.bases_long)))

  fits_all : Fits (take (m - 1) bases ++ (get_or bases (m - 1) 0 ∷ [])) (take (m - 1) todo ++ (get_or todo (m - 1) 0 ∷ []))
  fits_all = subst₂ Fits bases_parts (sym ok.begun ∙ todo_parts todo ok.todo_long) ok.some

  fits_split : Fits (take (m - 1) bases) (take (m - 1) todo) × Fits (get_or bases (m - 1) 0 ∷ []) (get_or todo (m - 1) 0 ∷ [])
  fits_split = fits_parts (take (m - 1) bases) (get_or bases (m - 1) 0 ∷ []) (take (m - 1) todo) (get_or todo (m - 1) 0 ∷ []) (front_long todo ok.todo_long) fits_all

  -- all 0, those before the last and the last
  both : take (m - 1) todo ++ (get_or todo (m - 1) 0 ∷ []) ≡ zeros (take (m - 1) bases) ++ (0 ∷ [])
  both = sym (todo_parts todo ok.todo_long) ∙ ok.begun ∙ ap zeros bases_parts ∙ zeros_append (take (m - 1) bases) (get_or bases (m - 1) 0 ∷ [])

  zeros_long : length (zeros (take (m - 1) bases)) ≡ m - 1
  zeros_long = length_zeros (take (m - 1) bases) ∙ length-take-le (m - 1) bases (omega (arith, show_place, ok.bases_long))

  front_zero : take (m - 1) todo ≡ zeros (take (m - 1) bases)
  front_zero =
      sym (take_at (take (m - 1) todo) (get_or todo (m - 1) 0 ∷ []) (m - 1) (length-take-le (m - 1) todo (omega (arith, show_place, ok.todo_long))))
      ∙ ap (take (m - 1)) both
      ∙ take_at (zeros (take (m - 1) bases)) (0 ∷ []) (m - 1) zeros_long

  last_zero : get_or todo (m - 1) 0 ≡ 0
  last_zero =
      sym (get_or_at (take (m - 1) todo) (get_or todo (m - 1) 0) [] 0 (m - 1) (length-take-le (m - 1) todo (omega (arith, show_place, ok.todo_long))))
      ∙ ap (λ z. get_or z (m - 1) 0) both
      ∙ get_or_at (zeros (take (m - 1) bases)) 0 [] 0 (m - 1) zeros_long

  pub show_turnable : Turnable bases (m - 1) todo
  show_turnable = record {
    few = omega (arith, ok.few);
    bases_long = ok.bases_long;
    todo_long = ok.todo_long;
    low = λ i l. ok.low i (omega arith);
    some = subst (Fits (take (m - 1) bases)) front_zero fits_split.0;
    begun = front_zero;
  }

  module _ (last : ℕ) (el : last ≡ get_or bases (m - 1) 0) where
    pub show_some : 0 < last
    show_some = omega (arith, el, fits_split.1.0)

    product_all : product (take m bases) ≡ product (take (m - 1) bases) * last
    product_all = ap product bases_parts ∙ product_append (take (m - 1) bases) (get_or bases (m - 1) 0 ∷ []) ∙ ap (λ (z : ℕ). product (take (m - 1) bases) * z) (mul-one (get_or bases (m - 1) 0) ∙ sym el)

    module _ (k : ℕ) where
      whole : k / last * last + k % last ≡ k
      whole = div-add-mod' k last

      module _ (to : List ℕ) where
        rest_on : drop (m - 1) to ≡ drop (m - 1) todo → drop m to ≡ drop m todo
        rest_on d =
            let e : m ≡ (m - 1) + 1 = omega (arith, some) in
            ap (λ (z : ℕ). drop z to) e ∙ sym (drop-drop 1 (m - 1) to) ∙ ap (drop 1) d ∙ drop-drop 1 (m - 1) todo ∙ ap (λ (z : ℕ). drop z todo) (sym e)

        -- those before it show how often it went round
        module _ (said : Option ℕ) (made : Turns bases (m - 1) (k / last) todo said to) (told : said ≡ None) where
          t : Turns bases (m - 1) (k / last) todo None to
          t = subst (λ z. Turns bases (m - 1) (k / last) todo z to) told made

          pub show_at : Turns bases m k todo None (set to (m - 1) (k % last))
          show_at =
              let shown : take m (set to (m - 1) (k % last)) ≡ take (m - 1) to ++ (k % last ∷ []) = ap (λ (z : ℕ). take z (set to (m - 1) (k % last))) up ∙ take-suc-set to (m - 1) (k % last) (omega (arith, show_place, t.room)) in
              record {
                room = length-set to (m - 1) (k % last) ∙ t.room;
                shows = (
                  subst₂ Fits (sym bases_parts) (sym shown) (parts_fit (take (m - 1) bases) (get_or bases (m - 1) 0 ∷ []) (take (m - 1) to) (k % last ∷ []) t.shows.0 (subst (λ (z : ℕ). k % last < z) el (mod-lt k show_some), tt)),
                  ap₂ turns bases_parts shown
                      ∙ turns_append (take (m - 1) bases) (get_or bases (m - 1) 0 ∷ []) (take (m - 1) to) (k % last ∷ []) (fits_length (take (m - 1) bases) (take (m - 1) to) t.shows.0)
                      ∙ omega (arith, ap (λ (z : ℕ). z * (get_or bases (m - 1) 0 * 1)) t.shows.1, ap (λ (z : ℕ). k / last * z) (mul-one (get_or bases (m - 1) 0) ∙ sym el), mul-one (k % last), whole),
                );
                rest = drop-set-lt m to (m - 1) (k % last) (omega (arith, some)) ∙ rest_on t.rest;
              }

        -- the first of them spilled
        module _ (said : Option ℕ) (made : Turns bases (m - 1) (k / last) todo said to) (rounds : ℕ) (told : said ≡ Some rounds) where
          spilled : Turns bases (m - 1) (k / last) todo (Some rounds) to
          spilled = subst (λ z. Turns bases (m - 1) (k / last) todo z to) told made

          left_over : k ≡ product (take m bases) + (rounds * last + k % last)
          left_over = omega (arith, whole, ap (λ (z : ℕ). z * last) spilled.shows.0, add-mul (product (take (m - 1) bases)) rounds last, product_all)

          pub show_past : Turns bases m k todo (Some (rounds * last + k % last)) to
          show_past = record {
            room = spilled.room;
            shows = (
              left_over,
              todo_parts to spilled.room
                  ∙ ap₂ (λ (y : List ℕ) (z : ℕ). y ++ (z ∷ [])) spilled.shows.1 (sym (get_d_here (m - 1) to) ∙ ap (λ z. get_or z 0 0) spilled.rest ∙ get_d_here (m - 1) todo ∙ last_zero)
                  ∙ sym (zeros_append (take (m - 1) bases) (get_or bases (m - 1) 0 ∷ []))
                  ∙ ap zeros (sym bases_parts),
            );
            rest = rest_on spilled.rest;
          }
