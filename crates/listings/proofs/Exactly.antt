-- What becomes of a rule whose sentences are asked for: one of 12, 13, 14, 16 and 15, or an answer; what is said of each, and of no other.
use mathlib.Core.List.{List, ◌++◌}
use mathlib.Core.Logic.{◌⊎◌, inl, inr}
use mathlib.Core.Path.{◌≡◌}
use Prim.Native.Nat.{ℕ, ◌≤◌, ◌<◌}
use native.Mathlib.Decide.{dec_le}
use native.Mathlib.Omega.{arith}
use lib.ListN.{length, drop}
use Rattle.theory.specs.Definitions.{Productive}
use Rattle.theory.specs.Visits.{Costs}
use Rattle.theory.specs.Cheapest.{Circular}
use Rattle.theory.specs.Listing.{listed, sentence_at}
use Rattle.theory.specs.Counts.{Count, counted, many as more, none as no_count}
use Rattle.theory.proofs.Cost.{cost_one}
use Rattle.grammar.specs.Flat.{Flat, denoted, price}
use Rattle.grammar.specs.Outcome.{Outcome, answers, refused}
use Rattle.engine.specs.Cost.{costs_of}
use Rattle.costs.proofs.Exactly.{Dear, kinds}
use Rattle.listings.specs.Calls.{counts_of, Work, Final, Lists, Counts, Numbers}

-- the rule's list
abbrev list : Flat → Costs → ℕ → ℕ
list g c r = length (listed (denoted g) (price g) c r)

abbrev word : Flat → Costs → ℕ → ℕ → List ℕ
word g c r i = sentence_at (denoted g) (price g) c r i

pub data Fate (g : Flat) (c : Costs) (r : ℕ) : Type 0 where
  none : (Productive (denoted g) r → ⊥) → Fate g c r
  dear : Dear g r → Fate g c r
  circular : Circular (denoted g) (price g) c r → Fate g c r
  many : Lists g c r → 65535 < list g c r → Fate g c r
  is : Lists g c r → list g c r ≤ 65535 → Fate g c r

-- it is one of the five, by the tables
pub fate : (g : Flat) (r : ℕ) (w : Work) → Final g w → Fate g (costs_of w.cost) r
fate g r w x = elim (kinds g r x.cost) [
  | inl h ↦ none h
  | inr (inl h) ↦ dear h
  | inr (inr h) ↦ from (omega (arith, cost_one h.2 (x.cost.exact r), h.1)) (x.counts.exact r)
]
  where
    from : costs_of w.cost r ≤ 65535 → Count (denoted g) (price g) (costs_of w.cost) r (counts_of w.counts r) → Fate g (costs_of w.cost) r
    from p (counted a u le e) = is (record { priced = a; straight = u }) le
    from p (more a u lt e) = many (record { priced = a; straight = u }) lt
    from p (no_count (inl l) e) = absurd (omega arith)
    from p (no_count (inr y) e) = circular y

-- what the count says of each
abbrev pub said : {g : Flat} {c : Costs} {r : ℕ} → Fate g c r → Outcome ℕ
said (none h) = refused 12
said (dear h) = refused 13
said (circular y) = refused 14
said (many l h) = refused 16
said {g} {c} {r} (is l h) = answers (list g c r)

pub counts_said : {g : Flat} {c : Costs} {r : ℕ} {s : Outcome ℕ} → Counts g c r s → (f : Fate g c r) → s ≡ said f
counts_said x (none h) = x.none h
counts_said x (dear h) = x.dear h.0 h.1
counts_said x (circular y) = x.circular y
counts_said x (many l h) = x.many l h
counts_said x (is l h) = x.is l h

-- what becomes of number k, with so much room
pub data Row (g : Flat) (c : Costs) (r i : ℕ) (out : List ℕ) : Type 0 where
  row_none : (Productive (denoted g) r → ⊥) → Row g c r i out
  row_dear : Dear g r → Row g c r i out
  row_circular : Circular (denoted g) (price g) c r → Row g c r i out
  row_past : Lists g c r → (65535 < list g c r) ⊎ (list g c r ≤ i) → Row g c r i out
  row_long : Lists g c r → list g c r ≤ 65535 → i < list g c r → (65535 < length (word g c r i)) ⊎ (length out < length (word g c r i)) → Row g c r i out
  row_is : Lists g c r → list g c r ≤ 65535 → i < list g c r → length (word g c r i) ≤ 65535 → length (word g c r i) ≤ length out → Row g c r i out

pub row : (g : Flat) (c : Costs) (r i : ℕ) (out : List ℕ) → Fate g c r → Row g c r i out
row g c r i out (none h) = row_none h
row g c r i out (dear h) = row_dear h
row g c r i out (circular y) = row_circular y
row g c r i out (many l h) = row_past l (inl h)
row g c r i out (is l h) = elim (dec_le (list g c r) i) [
  | yes k ↦ row_past l (inr k)
  | no k ↦ elim (dec_le (length (word g c r i)) 65535) [
    | no a ↦ row_long l h (omega arith) (inl (omega arith))
    | yes a ↦ elim (dec_le (length (word g c r i)) (length out)) [ yes b ↦ row_is l h (omega arith) a b | no b ↦ row_long l h (omega arith) (inr (omega arith)) ]
  ]
]

abbrev pub row_said : {g : Flat} {c : Costs} {r i : ℕ} {out : List ℕ} → Row g c r i out → Outcome ℕ
row_said (row_none h) = refused 12
row_said (row_dear h) = refused 13
row_said (row_circular y) = refused 14
row_said (row_past l h) = refused 16
row_said (row_long l h m t) = refused 15
row_said {g} {c} {r} {i} (row_is l h m a b) = answers (length (word g c r i))

abbrev pub row_left : {g : Flat} {c : Costs} {r i : ℕ} {out : List ℕ} → Row g c r i out → List ℕ
row_left {out = out} (row_none h) = out
row_left {out = out} (row_dear h) = out
row_left {out = out} (row_circular y) = out
row_left {out = out} (row_past l h) = out
row_left {out = out} (row_long l h m t) = out
row_left {g} {c} {r} {i} {out} (row_is l h m a b) = word g c r i ++ drop (length (word g c r i)) out

module _ {g : Flat} {c : Costs} {r i : ℕ} {out : List ℕ} {s : Outcome ℕ} {to : List ℕ} (x : Numbers g c r i out s to) where
  pub numbers_said : (f : Row g c r i out) → s ≡ row_said f
  numbers_said (row_none h) = (x.none h).number
  numbers_said (row_dear h) = (x.dear h.0 h.1).number
  numbers_said (row_circular y) = (x.circular y).number
  numbers_said (row_past l h) = (x.past l h).number
  numbers_said (row_long l h m t) = (x.long l h m t).number
  numbers_said (row_is l h m a b) = (x.is l h m a b).number

  pub numbers_left : (f : Row g c r i out) → to ≡ row_left f
  numbers_left (row_none h) = (x.none h).kept
  numbers_left (row_dear h) = (x.dear h.0 h.1).kept
  numbers_left (row_circular y) = (x.circular y).kept
  numbers_left (row_past l h) = (x.past l h).kept
  numbers_left (row_long l h m t) = (x.long l h m t).kept
  numbers_left (row_is l h m a b) = (x.is l h m a b).tokens
