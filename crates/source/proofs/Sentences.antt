-- The source's `min_sentences`: where it returns, its result is the list, in its order, and the rule is not circular.
use Rattle.std.proofs.Common.{◌≡◌, ℕ, zero, suc, ◌+◌, ◌-◌, ◌*◌, ◌<◌, ◌≤◌, Bool, true, false, cond, not, ◌&&◌, ◌||◌, eqb, ltb, leb, List, [], ◌∷◌, ◌++◌, map, length, get_or, drop, set, replicate, sym, refl, ap, ◌∙◌, subst, ap₂, inl, inr, append_assoc, append-nil, le_of_suc-le-suc, not-suc-le-zero, suc-mul, eq-or-lt_of_le, zero-mul, add-one, arith, length-append, drop_of_length-le, drop-cons, get_or-append-add, ltb-false, ltb-true, eq-eqb, eqb-true, le-leb, leb-false, leb-true}
use mathlib.Core.Bool.{false≢true}
use mathlib.Core.List.{map-append, map-map, cons≢nil, Memᴰ}
use mathlib.Core.Option.{Option, none, some}
use lib.ListN.{length-map, get_or-append}
use borrow.Author.Tests.{eqb-false}
use Rattle.theory.specs.Grammar.{tok, rul, Form, Grammar}
use Rattle.theory.specs.Visits.{Costs, form_cost, all_marked}
use Rattle.theory.specs.Tables.{Proper, CostExact}
use Rattle.theory.specs.Levels.{suits}
use Rattle.theory.specs.Cheapest.{Circular}
use Rattle.theory.specs.Listing.{Item, before, joined, by, pairs, choices, part, below, listing, listed, all_below, deep}
use Rattle.theory.specs.Odometer.{product, Fits, Last, zeros, turns, Carrying}
use Rattle.theory.proofs.Bools.{and_split, and_join, tested, fails, eqb_turned}
use Rattle.theory.proofs.Sentences.{owner_least, cost_owned}
use Rattle.theory.proofs.Counts.{listing_some}
use Rattle.theory.proofs.Depth.{deep_priced, deep_not_circular, deep_or_circular, deep_enough, listing_same}
use Rattle.theory.proofs.Odometer.{get_d_map, turns_below, turns_zeros, turns_last, carry_start, carry_below, carry_fits, carry_turns, carry_on, fits_length}
use Rattle.source.specs.Costs as Costs
use Rattle.source.proofs.Order.{loop_keeps, prods_all}
use Rattle.source.proofs.Sentence.{same_prod}
use Rattle.source.specs.Order.{rule_to_prods}
use Rattle.source.specs.Sentence.{Sums}
use Rattle.source.specs.Sentences.{Lows, unset, prod, prods, CheapestProds, cur, carry, Loop, break_b, again, Gathers, over, token, rule, Pushes, stop, empty, works, Runs, Returns}

-- the carry from place j down
module _ (bs ds₀ : List ℕ) (fit : Fits bs ds₀) where
  -- it breaks where all places were at their last; else one turn was made
  abbrev Carried : Option (List ℕ) → Type 0
  Carried none = Last bs ds₀
  Carried (some ds) = Fits bs ds × (turns bs ds ≡ suc (turns bs ds₀))

  -- place j is not at its last: it goes up
  carried_up : (j : ℕ) (ds : List ℕ) → Carrying bs ds₀ (suc j) ds → eqb (get_or ds j 0 + 1) (get_or bs j 0) ≡ false → Carried (some (set ds j (get_or ds j 0 + 1)))
  carried_up j ds c e =
      let l : suc (get_or ds j 0) < get_or bs j 0 = omega (arith, eqb-false (get_or ds j 0 + 1) (get_or bs j 0) e, carry_below bs ds₀ fit j ds c) in
      rw add-one (carry_fits bs ds₀ fit j ds c l, carry_turns bs ds₀ fit j ds c)

  carried : (j : ℕ) (ds : List ℕ) → Carrying bs ds₀ (suc j) ds → Carried (carry bs ds j)
  carried zero ds c = elim (tested (eqb (get_or ds 0 0 + 1) (get_or bs 0 0))) [
    | inl e ↦ rw e (carry_on bs ds₀ fit 0 ds c (omega (arith, eqb-true (get_or ds 0 0 + 1) (get_or bs 0 0) e))).last
    | inr e ↦ rw e (carried_up 0 ds c e)
  ]
  carried (suc j) ds c = elim (tested (eqb (get_or ds (suc j) 0 + 1) (get_or bs (suc j) 0))) [
    | inl e ↦ rw e (carried j (set ds (suc j) 0) (carry_on bs ds₀ fit (suc j) ds c (omega (arith, eqb-true (get_or ds (suc j) 0 + 1) (get_or bs (suc j) 0) e))))
    | inr e ↦ rw e (carried_up (suc j) ds c e)
  ]

  -- from the last place
  carried_all : 0 < length bs → Carried (carry bs ds₀ (length ds₀ - 1))
  carried_all l = carried (length ds₀ - 1) ds₀ (subst (λ (z : ℕ). Carrying bs ds₀ z ds₀) {x = length ds₀} {y = suc (length ds₀ - 1)} (omega (arith, fits_length bs ds₀ fit)) (carry_start bs ds₀ fit (length ds₀) (fits_length bs ds₀ fit)))

-- the sentences of a list of lists, the last turning fastest
abbrev together : List (List ℕ) → List (List ℕ) → List (List ℕ)
together [] ys = []
together (x ∷ xs) ys = map (λ y. x ++ y) ys ++ together xs ys

abbrev mixed : List (List (List ℕ)) → List (List ℕ)
mixed [] = [] ∷ []
mixed (m ∷ ms) = together m (mixed ms)

length_together : (xs ys : List (List ℕ)) → length (together xs ys) ≡ length xs * length ys
length_together [] ys = sym (zero-mul (length ys))
length_together (x ∷ xs) ys = omega (arith, length-append (map (λ y. x ++ y) ys) (together xs ys), length-map ys (λ y. x ++ y), length_together xs ys, suc-mul (length xs) (length ys))

length_mixed : (ms : List (List (List ℕ))) → length (mixed ms) ≡ product (map length ms)
length_mixed [] = refl
length_mixed (m ∷ ms) = length_together m (mixed ms) ∙ ap (λ (z : ℕ). length m * z) (length_mixed ms)

together_at : (xs ys : List (List ℕ)) (i j : ℕ) → i < length xs → j < length ys → get_or (together xs ys) (i * length ys + j) [] ≡ get_or xs i [] ++ get_or ys j []
together_at [] ys i j l m = absurd (not-suc-le-zero l)
together_at (x ∷ xs) ys zero j l m =
    ap (λ (z : ℕ). get_or (map (λ y. x ++ y) ys ++ together xs ys) z []) {x = 0 * length ys + j} {y = j} (omega (arith, zero-mul (length ys)))
    ∙ get_or-append (map (λ y. x ++ y) ys) (together xs ys) [] j (omega (arith, length-map ys (λ y. x ++ y)))
    ∙ get_d_map (λ y. x ++ y) ys j [] [] m
together_at (x ∷ xs) ys (suc i) j l m =
    ap (λ (z : ℕ). get_or (map (λ y. x ++ y) ys ++ together xs ys) z []) {x = suc i * length ys + j} {y = length (map (λ y. x ++ y) ys) + (i * length ys + j)}
    (omega (arith, suc-mul i (length ys), length-map ys (λ y. x ++ y)))
    ∙ get_or-append-add (map (λ y. x ++ y) ys) (together xs ys) (i * length ys + j) []
    ∙ together_at xs ys i j (le_of_suc-le-suc l) m

-- `cur` is the one whose number is how often the odometer has turned
cur_at : (ms : List (List (List ℕ))) (ds : List ℕ) → Fits (map length ms) ds → get_or (mixed ms) (turns (map length ms) ds) [] ≡ cur ms ds
cur_at [] [] f = refl
cur_at [] (d ∷ ds) f = absurd f
cur_at (m ∷ ms) [] f = absurd f
cur_at (m ∷ ms) (d ∷ ds) f =
    ap (λ (z : ℕ). get_or (together m (mixed ms)) (d * z + turns (map length ms) ds) []) (sym (length_mixed ms))
    ∙ together_at m (mixed ms) d (turns (map length ms) ds) f.0 (omega (arith, turns_below (map length ms) ds f.1, length_mixed ms))
    ∙ ap (λ z. get_or m d [] ++ z) (cur_at ms ds f.1)

-- the loop pushes what is left of them
loop_list : (ms : List (List (List ℕ))) (some-m : 0 < length (map length ms)) {ds : List ℕ} {out : List (List ℕ)} → Fits (map length ms) ds → Loop ms ds out → out ≡ drop (turns (map length ms) ds) (mixed ms)
loop_list ms sm {ds} f (break_b e) =
    let bs = map length ms in
    let t = turns_last bs ds (subst (λ z. Carried bs ds f z) e (carried_all bs ds f sm)) in
    ap₂ (λ (y : List ℕ) (z : List (List ℕ)). y ∷ z) (sym (cur_at ms ds f)) (sym (drop_of_length-le (mixed ms) {i = suc (turns bs ds)} (omega (arith, length_mixed ms))))
    ∙ sym (drop-cons (mixed ms) (turns bs ds) [] (omega (arith, length_mixed ms)))
loop_list ms sm {ds} f (again e y) =
    let bs = map length ms in
    let l = subst (λ z. Carried bs ds f z) e (carried_all bs ds f sm) in
    let i = loop_list ms sm l.0 y in
    ap₂ (λ (y : List ℕ) (z : List (List ℕ)). y ∷ z) (sym (cur_at ms ds f)) (i ∙ ap (λ (z : ℕ). drop z (mixed ms)) l.1)
    ∙ sym (drop-cons (mixed ms) (turns bs ds) [] (omega (arith, turns_below bs ds f, length_mixed ms)))

-- those numbers below n that pass, rising
abbrev those : (ℕ → Bool) → ℕ → List ℕ
those t zero = []
those t (suc j) = those t j ++ cond (t j) (j ∷ []) []

those_same : (t u : ℕ → Bool) (n : ℕ) → ((p : ℕ) → p < n → t p ≡ u p) → those t n ≡ those u n
those_same t u zero h = refl
those_same t u (suc n) h = ap₂ (λ (y : List ℕ) (b : Bool). y ++ cond b (n ∷ []) []) (those_same t u n (λ p l. h p (omega arith))) (h n (omega arith))

those_none : (t : ℕ → Bool) (n : ℕ) → ((p : ℕ) → p < n → t p ≡ false) → those t n ≡ []
those_none t zero h = refl
those_none t (suc n) h = ap₂ (λ (y : List ℕ) (b : Bool). y ++ cond b (n ∷ []) []) (those_none t n (λ p l. h p (omega arith))) (h n (omega arith))

-- `cheapest_prods`: those of the lowest sum
module _ (g : Grammar) (k : ℕ → ℕ) (c : Costs) (r : ℕ) where
  abbrev cost : ℕ → ℕ
  cost p = form_cost k c (g.body p)

  abbrev test : ℕ → ℕ → Bool
  test m p = eqb (g.owner p) r && eqb (cost p) m

  test_yes : (m p : ℕ) → g.owner p ≡ r → cost p ≡ m → test m p ≡ true
  test_yes m p o e = and_join (eq-eqb (g.owner p) r o) (eq-eqb (cost p) m e)

  test_no : (m p : ℕ) → (g.owner p ≡ r → cost p ≡ m → ⊥) → test m p ≡ false
  test_no m p h = fails _ (λ e. let s = and_split (eqb (g.owner p) r) _ e in h (eqb-true (g.owner p) r s.0) (eqb-true (cost p) m s.1))

  -- of r's productions below j: none, or those of the lowest sum m
  data Lowest (j : ℕ) (l : Lows) : Type 0 where
    nothing' : ((q : ℕ) → q < j → g.owner q ≡ r → ⊥) → l ≡ unset → Lowest j l
    found : (m : ℕ) → ((q : ℕ) → q < j → g.owner q ≡ r → m ≤ cost q) → ((q : ℕ) × (q < j) × (g.owner q ≡ r) × (cost q ≡ m)) → l ≡ record { sc = some m; idxs = those (test m) j } → Lowest j l

  upto_suc : {A : ℕ → Type 0} (j : ℕ) → ((q : ℕ) → q < j → A q) → A j → (q : ℕ) → q < suc j → A q
  upto_suc {A} j h a q l = elim (eq-or-lt_of_le (le_of_suc-le-suc l)) [ inl e ↦ subst A (sym e) a | inr m ↦ h q m ]

  -- production j belongs to r
  low_own : (j : ℕ) (l : Lows) → g.owner j ≡ r → Lowest j l → Lowest (suc j) (prod g k c j l)
  low_own j l o (nothing' h e) = found (cost j)
      (upto_suc {A = λ q. g.owner q ≡ r → cost j ≤ cost q} j (λ q m u. absurd (h q m u)) (λ u. omega arith))
      (j, omega arith, o, refl)
      (ap (prod g k c j) e ∙ ap (λ z. record { sc = some (cost j); idxs = z }) (sym (ap₂ (λ (y : List ℕ) (b : Bool). y ++ cond b (j ∷ []) []) (those_none (test (cost j)) j (λ q m. test_no (cost j) q (λ u v. h q m u))) (test_yes (cost j) j o refl))))
  low_own j l o (found m least has e) = subst (λ z. Lowest (suc j) (prod g k c j z)) (sym e) (go (leb (cost j) m) refl (ltb (cost j) m) refl)
    where
      go : (a : Bool) → leb (cost j) m ≡ a → (b : Bool) → ltb (cost j) m ≡ b
          → Lowest (suc j) (cond a (record { sc = some (cost j); idxs = cond b [] (those (test m) j) ++ (j ∷ []) }) (record { sc = some m; idxs = those (test m) j }))
      go true x true y =
          let lt = ltb-true (cost j) m y in
          found (cost j)
          (upto_suc {A = λ q. g.owner q ≡ r → cost j ≤ cost q} j (λ q n u. omega (arith, least q n u)) (λ u. omega arith))
          (j, omega arith, o, refl)
          (ap (λ z. record { sc = some (cost j); idxs = z }) (sym (ap₂ (λ (z : List ℕ) (b : Bool). z ++ cond b (j ∷ []) []) (those_none (test (cost j)) j (λ q n. test_no (cost j) q (λ u v. omega (arith, least q n u)))) (test_yes (cost j) j o refl))))
      go true x false y =
          let same : cost j ≡ m = omega (arith, leb-true (cost j) m x, ltb-false (cost j) m y) in
          found m
          (upto_suc {A = λ q. g.owner q ≡ r → m ≤ cost q} j least (λ u. omega arith))
          (has.0, omega (arith, has.1), has.2, has.3)
          (ap₂ (λ (y : ℕ) (z : List ℕ). record { sc = some y; idxs = z }) same (ap (λ (b : Bool). those (test m) j ++ cond b (j ∷ []) []) (sym (test_yes m j o same))))
      go false x b y =
          let gt = leb-false (cost j) m x in
          found m
          (upto_suc {A = λ q. g.owner q ≡ r → m ≤ cost q} j least (λ u. omega arith))
          (has.0, omega (arith, has.1), has.2, has.3)
          (ap (λ (z : List ℕ). record { sc = some m; idxs = z }) (sym (append-nil (those (test m) j)) ∙ ap (λ (b : Bool). those (test m) j ++ cond b (j ∷ []) []) (sym (test_no m j (λ u v. omega arith)))))

  -- it does not
  low_other : (j : ℕ) (l : Lows) → (g.owner j ≡ r → ⊥) → Lowest j l → Lowest (suc j) l
  low_other j l o (nothing' h e) = nothing' (upto_suc {A = λ q. g.owner q ≡ r → ⊥} j h o) e
  low_other j l o (found m least has e) = found m
      (upto_suc {A = λ q. g.owner q ≡ r → m ≤ cost q} j least (λ u. absurd (o u)))
      (has.0, omega (arith, has.1), has.2, has.3)
      (e ∙ ap (λ (z : List ℕ). record { sc = some m; idxs = z }) (sym (append-nil (those (test m) j)) ∙ ap (λ (b : Bool). those (test m) j ++ cond b (j ∷ []) []) (sym (test_no m j (λ u v. o u)))))

  lowest : Lowest g.prods (prods g k c (rule_to_prods g r) unset)
  lowest = loop_keeps g r (prod g k c) (prods g k c) (λ l. refl) (λ p ps l. refl) Lowest low_own low_other unset (nothing' (λ q l. absurd (not-suc-le-zero l)) refl)

-- what the productions of two lists push
record Parted (g : Grammar) (Call : ℕ → List (List ℕ) → Type 0) (ps qs : List ℕ) (sts : List (List ℕ)) : Type 0 where
  one : List (List ℕ)
  two : List (List ℕ)
  first : Pushes g Call ps one
  second : Pushes g Call qs two
  is : sts ≡ one ++ two

pushes_parts : {g : Grammar} {Call : ℕ → List (List ℕ) → Type 0} (ps qs : List ℕ) {sts : List (List ℕ)} → Pushes g Call (ps ++ qs) sts → Parted g Call ps qs sts
pushes_parts [] qs {sts} y = record { one = []; two = sts; first = stop; second = y; is = refl }
pushes_parts (p ∷ ps) qs (empty e y) = let i = pushes_parts ps qs y in record { one = [] ∷ i.one; two = i.two; first = empty e i.first; second = i.second; is = ap (λ z. [] ∷ z) i.is }
pushes_parts (p ∷ ps) qs (works {out = out} n a l y) =
    let i = pushes_parts ps qs y in
    record { one = out ++ i.one; two = i.two; first = works n a l i.first; second = i.second; is = ap (λ z. out ++ z) i.is ∙ sym (append_assoc out i.one i.two) }

pushes_on : {g : Grammar} {Call : ℕ → List (List ℕ) → Type 0} (ps : List ℕ) {one two : List (List ℕ)} {qs : List ℕ} → Pushes g Call ps one → Pushes g Call qs two → (sts : List (List ℕ)) × Pushes g Call (ps ++ qs) sts
pushes_on [] {two = two} stop z = (two, z)
pushes_on (p ∷ ps) (empty e y) z = let i = pushes_on ps y z in ([] ∷ i.0, empty e i.1)
pushes_on (p ∷ ps) (works {out = out} v a l y) z = let i = pushes_on ps y z in (out ++ i.0, works v a l i.1)

-- the sentences of a list
abbrev words : List Item → List (List ℕ)
words xs = map (λ x. x.tokens) xs

words_append : (xs ys : List Item) → words (xs ++ ys) ≡ words xs ++ words ys
words_append = map-append (λ x. x.tokens)

words_pairs : (xs ys : List Item) → words (pairs xs ys) ≡ together (words xs) (words ys)
words_pairs [] ys = refl
words_pairs (x ∷ xs) ys = words_append (map (joined x) ys) (pairs xs ys) ∙ ap₂ ◌++◌ (map-map (λ y. y.tokens) (joined x) ys ∙ sym (map-map (λ w. x.tokens ++ w) (λ y. y.tokens) ys)) (words_pairs xs ys)

words_before : (t : ℕ) (xs : List Item) → words (map (before t) xs) ≡ together ((t ∷ []) ∷ []) (words xs)
words_before t [] = refl
words_before t (x ∷ xs) = ap (λ z. (t ∷ x.tokens) ∷ z) (words_before t xs)

-- `vec![0; prod.len()]`
replicate_zeros : (n : ℕ) (bs : List ℕ) → n ≡ length bs → replicate n 0 ≡ zeros bs
replicate_zeros zero [] e = refl
replicate_zeros zero (b ∷ bs) e = absurd (omega arith)
replicate_zeros (suc n) [] e = absurd (omega arith)
replicate_zeros (suc n) (b ∷ bs) e = ap (λ z. 0 ∷ z) (replicate_zeros n bs (omega arith))

-- the sentences of rule r's list, in its order
pub record Same (g : Grammar) (k : ℕ → ℕ) (c : Costs) (r : ℕ) (sts : List (List ℕ)) : Type 0 where
  pub priced : c r ≤ 65535
  pub straight : Circular g k c r → ⊥
  pub is : sts ≡ map (λ i. i.tokens) (listed g k c r)

-- b is the source's list of costs, if it asks for one; c is the COST table; each rule owns a production
module _ (g : Grammar) (k : ℕ → ℕ) (ok : Proper g) (own : (r : ℕ) → r < g.rules → (p : ℕ) × (p < g.prods) × (g.owner p ≡ r)) (b c : Costs) (x : CostExact g k c) where
  priced : (r : ℕ) → r < g.rules → {ps : List ℕ} → CheapestProds g k b r ps → c r ≤ 65535
  priced r lt y =
      let m = own r lt in
      omega (arith, y.sums m.0 (prods_all g r m.0 m.1 m.2), same_prod g k ok b c x r y.costs m.0 m.1 m.2, owner_least g k c ok x m.0 m.1, ap c m.2)

  -- `cheapest_prods` returns the productions that suit
  cheapest_those : (r : ℕ) → r < g.rules → {ps : List ℕ} → CheapestProds g k b r ps → ps ≡ those (suits g k c r) g.prods
  cheapest_those r lt {ps} y = sym y.low_idxs ∙ from (lowest g k b r)
    where
      low : c r ≤ 65535
      low = priced r lt y

      same_of : (p : ℕ) → p < g.prods → g.owner p ≡ r → form_cost k b (g.body p) ≡ form_cost k c (g.body p)
      same_of p l o = same_prod g k ok b c x r y.costs p l o

      from : {l : Lows} → Lowest g k b r g.prods l → l.idxs ≡ those (suits g k c r) g.prods
      from (nothing' h e) = let m = cost_owned g k c ok x r low in absurd (h m.0 m.1 m.2)
      from (found m least has e) =
          let w = cost_owned g k c ok x r low in
          let least_of_law = owner_least g k c ok x has.0 has.1 in
          let owner_of = ap c has.2 in
          let same : m ≡ c r = omega (arith, least w.0 w.1 w.2, w.3, same_of w.0 w.1 w.2, has.3, same_of has.0 has.1 has.2) in
          ap (λ z. z.idxs) e ∙ those_same (test g k b r m) (suits g k c r) g.prods (λ p l. elim (tested (eqb (g.owner p) r)) [ inl o ↦ agree same p l o | inr o ↦ rw (o, eqb_turned r (g.owner p), o) ])
        where
          agree : m ≡ c r → (p : ℕ) → p < g.prods → eqb (g.owner p) r ≡ true → test g k b r m p ≡ suits g k c r p
          agree same p l o = ap₂ ◌&&◌ (eqb_turned (g.owner p) r)
              (ap₂ eqb (same_of p l (eqb-true (g.owner p) r o)) same ∙ sym (ap (λ (z : Bool). z && eqb (form_cost k c (g.body p)) (c r)) (le-leb (c r) 65535 low)))

  -- what a call with at most n calls inside it returns
  abbrev Known : ℕ → ℕ → List (List ℕ) → Type 0
  Known n r sts = (deep g k c n r ≡ true) × (sts ≡ words (listing g k c n r))

  -- what is gathered for a form: its rules have a depth, and the mixture is the form's list
  record Gathered (n : ℕ) (α : Form) (ms : List (List (List ℕ))) : Type 0 where
    within : all_marked (deep g k c n) α ≡ true
    long : length ms ≡ length α
    starts : Fits (map length ms) (zeros (map length ms))
    mixes : mixed ms ≡ words (choices (listing g k c n) α)

  gathered : (n : ℕ) → ((r : ℕ) → r < g.rules → (sts : List (List ℕ)) → Runs g k b n r sts → Known n r sts) → {α : Form} {ms : List (List (List ℕ))} → ((r : ℕ) → Memᴰ (rul r) α → r < g.rules) → Gathers (Runs g k b n) α ms → Gathered n α ms
  gathered n ih h over = record { within = refl; long = refl; starts = tt; mixes = refl }
  gathered n ih h (token {t = t} {α = α} y) =
      let i = gathered n ih (λ r m. h r (Memᴰ.tail m)) y in
      record {
        within = i.within;
        long = ap suc i.long;
        starts = (omega arith, i.starts);
        mixes = ap (together ((t ∷ []) ∷ [])) i.mixes ∙ sym (words_before t (choices (listing g k c n) α));
      }
  gathered n ih h (rule {r = r} {α = α} {m = m} d y) =
      let i = gathered n ih (λ q l. h q (Memᴰ.tail l)) y in
      let e = ih r (h r (Memᴰ.head refl)) m d in
      record {
        within = and_join e.0 i.within;
        long = ap suc i.long;
        starts = (omega (arith, ap length e.1, length-map (listing g k c n r) (λ x. x.tokens), listing_some g k c ok x n r e.0), i.starts);
        mixes = ap₂ together e.1 i.mixes ∙ sym (words_pairs (listing g k c n r) (choices (listing g k c n) α));
      }

  -- one production
  pushed_one : (n : ℕ) → ((r : ℕ) → r < g.rules → (sts : List (List ℕ)) → Runs g k b n r sts → Known n r sts) → (p : ℕ) → p < g.prods → {sts : List (List ℕ)} → Pushes g (Runs g k b n) (p ∷ []) sts
      → (all_marked (deep g k c n) (g.body p) ≡ true) × (sts ≡ words (choices (listing g k c n) (g.body p)))
  pushed_one n ih p lt (empty e stop) = (rw e refl, rw e refl)
  pushed_one n ih p lt (works {ms = ms} {out = out} some-symbol y l stop) =
      let i = gathered n ih (ok.rule p lt) y in
      let bs = map length ms in
      let len : length bs ≡ length (g.body p) = length-map ms length ∙ i.long in
      let z = replicate_zeros (length (g.body p)) bs (sym len) in
      let full : 0 < length bs = omega (arith, len, not_empty (g.body p) some-symbol) in
      let o = loop_list ms full i.starts (subst (λ v. Loop ms v out) z l) in
      (i.within, append-nil out ∙ o ∙ ap (λ (v : ℕ). drop v (mixed ms)) (turns_zeros bs) ∙ i.mixes)
    where
      not_empty : (α : Form) → (α ≡ [] → ⊥) → 0 < length α
      not_empty [] h = absurd (h refl)
      not_empty (y ∷ α) h = omega arith

  -- the productions of a rule below j
  pushed : (n : ℕ) → ((r : ℕ) → r < g.rules → (sts : List (List ℕ)) → Runs g k b n r sts → Known n r sts) → (r j : ℕ) → j ≤ g.prods → {sts : List (List ℕ)} → Pushes g (Runs g k b n) (those (suits g k c r) j) sts
      → (all_below g k c (deep g k c n) r j ≡ true) × (sts ≡ words (below g k c (listing g k c n) r j))
  pushed n ih r zero le stop = (refl, refl)
  pushed n ih r (suc j) le {sts} y =
      let a = pushes_parts (those (suits g k c r) j) (cond (suits g k c r j) (j ∷ []) []) y in
      let i = pushed n ih r j (omega arith) a.first in
      let e = last (suits g k c r j) a.two a.second in
      (and_join i.0 e.0, a.is ∙ ap₂ ◌++◌ i.1 e.1 ∙ sym (words_append (below g k c (listing g k c n) r j) (part g k c (listing g k c n) r j)))
    where
      last : (t : Bool) (two : List (List ℕ)) → Pushes g (Runs g k b n) (cond t (j ∷ []) []) two
          → ((not t || all_marked (deep g k c n) (g.body j)) ≡ true) × (two ≡ words (cond t (map (by j) (choices (listing g k c n) (g.body j))) []))
      last true two z = let o = pushed_one n ih j (omega arith) z in (o.0, o.1 ∙ sym (map-map (λ x. x.tokens) (by j) (choices (listing g k c n) (g.body j))))
      last false _ stop = (refl, refl)

  runs_list : (n r : ℕ) → r < g.rules → (sts : List (List ℕ)) → Runs g k b n r sts → Known n r sts
  runs_list zero r lt sts y = absurd y
  runs_list (suc n) r lt sts y =
      let o = pushed n (runs_list n) r g.prods (omega arith) (subst (λ z. Pushes g (Runs g k b n) z sts) (cheapest_those r lt y.1) y.2) in
      (and_join (le-leb (c r) 65535 (priced r lt y.1)) o.0, o.1)

  -- what `min_sentences` returns for r is the list of r, in its order; and r has a cost and is not circular
  pub sentences_same : (r : ℕ) → r < g.rules → (sts : List (List ℕ)) → Returns g k b r sts → Same g k c r sts
  sentences_same r lt sts y =
      let o = runs_list y.0 r lt sts y.1 in
      record {
        priced = deep_priced g k c y.0 r o.0;
        straight = deep_not_circular g k c y.0 r o.0;
        is = o.1 ∙ ap words (listing_same g k c y.0 g.rules r o.0 (deep_enough g k c ok x y.0 r o.0));
      }

  -- the other way: the loop comes to its end
  loop_ends : (ms : List (List (List ℕ))) → 0 < length (map length ms) → (fuel : ℕ) (ds : List ℕ) → Fits (map length ms) ds → product (map length ms) ≤ turns (map length ms) ds + fuel → (out : List (List ℕ)) × Loop ms ds out
  loop_ends ms sm zero ds f le = absurd (omega (arith, turns_below (map length ms) ds f))
  loop_ends ms sm (suc fuel) ds f le =
      go (carry (map length ms) ds (length ds - 1)) refl (carried_all (map length ms) ds f sm) (loop_ends ms sm fuel)
    where
      go : (o : Option (List ℕ)) → carry (map length ms) ds (length ds - 1) ≡ o → Carried (map length ms) ds f o
          → ((es : List ℕ) → Fits (map length ms) es → product (map length ms) ≤ turns (map length ms) es + fuel → (out : List (List ℕ)) × Loop ms es out) → (out : List (List ℕ)) × Loop ms ds out
      go none e c ih = (cur ms ds ∷ [], break_b e)
      go (some es) e c ih = let i = ih es c.0 (omega (arith, c.1)) in (cur ms ds ∷ i.0, again e i.1)

  module _ (ret : Costs.Returns g k Costs.start b) (sums : (r : ℕ) → Sums g k b r) where
    cheapest_of : (r : ℕ) → CheapestProds g k b r (prods g k b (rule_to_prods g r) unset).idxs
    cheapest_of r = record { costs = λ s a. ret; sums = sums r; low_idxs = refl }

    gathers_ends : (n : ℕ) → ((r : ℕ) → r < g.rules → deep g k c n r ≡ true → (sts : List (List ℕ)) × Runs g k b n r sts) → (α : Form) → ((r : ℕ) → Memᴰ (rul r) α → r < g.rules) → all_marked (deep g k c n) α ≡ true → (ms : List (List (List ℕ))) × Gathers (Runs g k b n) α ms
    gathers_ends n ih [] h e = ([], over)
    gathers_ends n ih (tok t ∷ α) h e = let i = gathers_ends n ih α (λ r m. h r (Memᴰ.tail m)) e in (((t ∷ []) ∷ []) ∷ i.0, token i.1)
    gathers_ends n ih (rul r ∷ α) h e =
        let s = and_split (deep g k c n r) _ e in
        let i = gathers_ends n ih α (λ q m. h q (Memᴰ.tail m)) s.1 in
        let j = ih r (h r (Memᴰ.head refl)) s.0 in
        (j.0 ∷ i.0, rule j.1 i.1)

    pushes_ends : (n : ℕ) → ((r : ℕ) → r < g.rules → deep g k c n r ≡ true → (sts : List (List ℕ)) × Runs g k b n r sts) → (p : ℕ) → p < g.prods → all_marked (deep g k c n) (g.body p) ≡ true → (sts : List (List ℕ)) × Pushes g (Runs g k b n) (p ∷ []) sts
    pushes_ends n ih p lt e = go (g.body p) refl
      where
        go : (α : Form) → g.body p ≡ α → (sts : List (List ℕ)) × Pushes g (Runs g k b n) (p ∷ []) sts
        go [] d = ([] ∷ [], empty d stop)
        go (y ∷ α) d =
            let a = gathers_ends n ih (g.body p) (ok.rule p lt) e in
            let i = gathered n (runs_list n) (ok.rule p lt) a.1 in
            let bs = map length a.0 in
            let len : length bs ≡ length (g.body p) = length-map a.0 length ∙ i.long in
            let l = loop_ends a.0 (omega (arith, len, ap length d)) (product bs) (zeros bs) i.starts (omega arith) in
            let z = replicate_zeros (length (g.body p)) bs (sym len) in
            (l.0 ++ [], works (λ v. cons≢nil (sym d ∙ v)) a.1 (subst (λ v. Loop a.0 v l.0) (sym z) l.1) stop)

    those_ends : (n : ℕ) → ((r : ℕ) → r < g.rules → deep g k c n r ≡ true → (sts : List (List ℕ)) × Runs g k b n r sts) → (r j : ℕ) → j ≤ g.prods → all_below g k c (deep g k c n) r j ≡ true → (sts : List (List ℕ)) × Pushes g (Runs g k b n) (those (suits g k c r) j) sts
    those_ends n ih r zero le e = ([], stop)
    those_ends n ih r (suc j) le e =
        let s = and_split (all_below g k c (deep g k c n) r j) _ e in
        let i = those_ends n ih r j (omega arith) s.0 in
        let l = last (suits g k c r j) s.1 in
        pushes_on (those (suits g k c r) j) i.1 l.1
      where
        last : (t : Bool) → (not t || all_marked (deep g k c n) (g.body j)) ≡ true → (two : List (List ℕ)) × Pushes g (Runs g k b n) (cond t (j ∷ []) []) two
        last true d = pushes_ends n ih j (omega arith) d
        last false d = ([], stop)

    runs_ends : (n r : ℕ) → r < g.rules → deep g k c n r ≡ true → (sts : List (List ℕ)) × Runs g k b n r sts
    runs_ends zero r lt e = absurd (false≢true e)
    runs_ends (suc n) r lt e =
        let y = cheapest_of r in
        let i = those_ends n (runs_ends n) r g.prods (omega arith) (and_split (leb (c r) 65535) _ e).1 in
        (i.0, ((prods g k b (rule_to_prods g r) unset).idxs, y, subst (λ z. Pushes g (Runs g k b n) z i.0) (sym (cheapest_those r lt y)) i.1))

    -- it returns where the costs do, r is not circular and no sum is above 65535
    pub sentences_returns : (r : ℕ) → r < g.rules → (Circular g k c r → ⊥) → Returns g k b r (map (λ i. i.tokens) (listed g k c r))
    sentences_returns r lt u = elim (deep_or_circular g k c ok x r (priced r lt (cheapest_of r))) [
      | inl d ↦
          let o = runs_ends g.rules r lt d in
          (g.rules, subst (λ z. Runs g k b g.rules r z) (runs_list g.rules r lt o.0 o.1).1 o.1)
      | inr y ↦ absurd (u y)
    ]
