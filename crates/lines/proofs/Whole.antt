-- What a line says determines it, and so the whole report of a grammar: any two reports of one grammar are equal.
use mathlib.Core.Bool.{Bool}
use mathlib.Core.List.Memᴰ
use mathlib.Core.List.{List, [], ◌∷◌, ◌++◌, Memᴰ}
use mathlib.Core.Logic.{inl, inr}
use mathlib.Core.Path.{◌≡◌, refl, sym, ap, ◌∙◌}
use Prim.Native.Nat.{ℕ, zero, suc}
use native.Mathlib.Omega.{arith}
use Rattle.theory.proofs.Bools.{bool_eq}
use Rattle.grammar.specs.Flat.{Flat}
use Rattle.lines.specs.Text.{Rising, none, next}
use Rattle.lines.specs.Line.{Price, amount, none, dear, Entry, line_of, heading_of}
use Rattle.lines.specs.Says.{Says}
use Rattle.lines.specs.Report.{Lines, none, more, GrammarReport}

-- each member of a is one of b
abbrev Within : (a b : List ℕ) → Type 0
Within a b = (t : ℕ) → Memᴰ t a → Memᴰ t b

-- the first of two rising lists, each within the other
same_first : (x y : ℕ) (xs ys : List ℕ) → Rising (x ∷ xs) → Rising (y ∷ ys) → Within (x ∷ xs) (y ∷ ys) → Within (y ∷ ys) (x ∷ xs) → x ≡ y
same_first x y xs ys (next b r) (next d s) f h = elim (Memᴰ.cases_cons (f x (Memᴰ.head refl))) [
  | inl e ↦ e
  | inr m ↦ elim (Memᴰ.cases_cons (h y (Memᴰ.head refl))) [ inl e ↦ sym e | inr k ↦ absurd (omega (arith, b y k, d x m)) ]
]

-- without it
later : (x y : ℕ) (xs ys : List ℕ) → x ≡ y → Rising (x ∷ xs) → Within (x ∷ xs) (y ∷ ys) → Within xs ys
later x y xs ys e (next b r) f t m = elim (Memᴰ.cases_cons (f t (Memᴰ.tail m))) [ inl q ↦ absurd (omega (arith, b t m, q, e)) | inr k ↦ k ]

-- rising lists with the same members are equal
rising_one : (a b : List ℕ) → Rising a → Rising b → Within a b → Within b a → a ≡ b
rising_one [] [] r s f h = refl
rising_one [] (y ∷ ys) r s f h = absurd (Memᴰ.not-nil (h y (Memᴰ.head refl)))
rising_one (x ∷ xs) [] r s f h = absurd (Memᴰ.not-nil (f x (Memᴰ.head refl)))
rising_one (x ∷ xs) (y ∷ ys) r s f h =
    let e = same_first x y xs ys r s f h in
    ap (λ z. z ∷ xs) e ∙ ap (λ z. y ∷ z) (rising_one xs ys (rest r) (rest s) (later x y xs ys e r f) (later y x ys xs (sym e) s h))
  where
    rest : {z : ℕ} {zs : List ℕ} → Rising (z ∷ zs) → Rising zs
    rest (next q p) = p

-- entries with the same fields are equal
abbrev entry : ℕ → Bool → (first follow : List ℕ) → Price → Entry
entry n e first follow c = record { number = n; empty = e; first = first; follow = follow; cost = c }

entry_one : (a b : Entry) → a.number ≡ b.number → a.empty ≡ b.empty → a.first ≡ b.first → a.follow ≡ b.follow → a.cost ≡ b.cost → a ≡ b
entry_one a b en ee ef eo ec = let z : entry a.number a.empty a.first a.follow a.cost ≡ entry b.number b.empty b.first b.follow b.cost = rw (en, ee, ef, eo, ec) in z

module _ (g : Flat) where
  module _ (r : ℕ) (a b : Entry) (x : Says g r a) (y : Says g r b) where
    same_cost : (p : Price) → a.cost ≡ p → p ≡ b.cost
    same_cost (amount n) e = sym ((y.is_amount n).0 ((x.is_amount n).1 e))
    same_cost none e = sym (y.is_none.0 (x.is_none.1 e))
    same_cost dear e = sym (y.is_dear.0 (x.is_dear.1 e))

    -- two lines that say it are equal
    pub says_one : a ≡ b
    says_one =
        entry_one a b (x.number ∙ sym y.number) (bool_eq a.empty b.empty (λ e. y.empty.0 (x.empty.1 e)) (λ e. x.empty.0 (y.empty.1 e)))
        (rising_one a.first b.first x.first_rises y.first_rises (λ t m. (y.first t).0 ((x.first t).1 m)) (λ t m. (x.first t).0 ((y.first t).1 m)))
        (rising_one a.follow b.follow x.follow_rises y.follow_rises (λ t m. (y.follow t).0 ((x.follow t).1 m)) (λ t m. (x.follow t).0 ((y.follow t).1 m)))
        (same_cost a.cost refl)

  lines_one : (n : ℕ) {a b : List ℕ} → Lines g n a → Lines g n b → a ≡ b
  lines_one zero none none = refl
  lines_one (suc n) (more {before = p} e l s i) (more {before = q} f m t j) = i ∙ ap (λ z. z ++ line_of e) (lines_one n l m) ∙ ap (λ z. q ++ line_of z) (says_one n e f s t) ∙ sym j

  pub grammar_report_one : {a b : List ℕ} → GrammarReport g a → GrammarReport g b → a ≡ b
  grammar_report_one x y = x.is ∙ ap (λ l. heading_of ++ l) (lines_one g.rules x.each y.each) ∙ sym y.is
