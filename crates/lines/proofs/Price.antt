-- The last field: an amount, `dear` or `none`, and what each tells.
use mathlib.Core.Logic.{◌⊎◌, inl, inr}
use mathlib.Core.Path.{◌≡◌, sym, ◌∙◌}
use Prim.Native.Nat.{ℕ, ◌≤◌, ◌<◌}
use native.Mathlib.Decide.{dec_le}
use native.Mathlib.Omega.{arith}
use borrow.Author.Tests.{le-leb, lt-leb}
use Rattle.lines.specs.Line.{Price, amount, none, dear, price_of}

-- the last field, by cases of the entry
module _ (n : ℕ) where
  pub price_amount : n ≤ 65535 → price_of n ≡ amount n
  unfolding price_of
  price_amount l = rw (le-leb n 65535 l)

  pub price_dear : 65535 < n → n ≤ 65536 → price_of n ≡ dear
  unfolding price_of
  price_dear l m = rw (lt-leb n 65535 l, le-leb n 65536 m)

  pub price_none : 65535 < n → 65536 < n → price_of n ≡ none
  unfolding price_of
  price_none l m = rw (lt-leb n 65535 l, lt-leb n 65536 m)

  kinds : (n ≤ 65535) ⊎ ((n ≡ 65536) ⊎ (65536 < n))
  kinds = elim (dec_le n 65535) [ yes l ↦ inl l | no l ↦ elim (dec_le n 65536) [ yes m ↦ inr (inl (omega arith)) | no m ↦ inr (inr (omega arith)) ] ]

-- an amount, `none` and `dear` are told apart
amounts_same : {m n : ℕ} → amount m ≡ amount n → m ≡ n
amounts_same e = cc

not_none : {m : ℕ} → amount m ≡ none → ⊥
not_none e = let z : ◌≡◌ {A = ℕ} 0 1 = cc in omega arith

not_dear : {m : ℕ} → amount m ≡ dear → ⊥
not_dear e = let z : ◌≡◌ {A = ℕ} 0 1 = cc in omega arith

none_dear : ◌≡◌ {A = Price} none dear → ⊥
none_dear e = let z : ◌≡◌ {A = ℕ} 0 1 = cc in omega arith

-- and the other way: the field tells the case
module _ (n : ℕ) where
  pub amount_told : (m : ℕ) → price_of n ≡ amount m → (n ≤ 65535) × (n ≡ m)
  amount_told m e = elim (kinds n) [
    | inl l ↦ (l, amounts_same (sym (price_amount n l) ∙ e))
    | inr (inl h) ↦ absurd (not_dear (sym e ∙ price_dear n (omega arith) (omega arith)))
    | inr (inr h) ↦ absurd (not_none (sym e ∙ price_none n (omega arith) h))
  ]

  pub none_told : price_of n ≡ none → 65536 < n
  none_told e = elim (kinds n) [
    | inl l ↦ absurd (not_none (sym (price_amount n l) ∙ e))
    | inr (inl h) ↦ absurd (none_dear (sym e ∙ price_dear n (omega arith) (omega arith)))
    | inr (inr h) ↦ h
  ]

  pub dear_told : price_of n ≡ dear → n ≡ 65536
  dear_told e = elim (kinds n) [
    | inl l ↦ absurd (not_dear (sym (price_amount n l) ∙ e))
    | inr (inl h) ↦ h
    | inr (inr h) ↦ absurd (none_dear (sym (price_none n (omega arith) h) ∙ e))
  ]
