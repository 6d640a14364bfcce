-- What becomes of a rule: no sentence, only dear ones, a circular choice, a sentence that does not fit, or one that does; what is said of each, and of no other.
use mathlib.Core.List.{List, [], ◌∷◌, ◌++◌}
use mathlib.Core.Logic.{◌⊎◌, inl, inr, ◌↔◌}
use mathlib.Core.Path.{◌≡◌, sym, ◌∙◌}
use Prim.Native.Nat.{ℕ, ◌≤◌, ◌<◌}
use native.Mathlib.Decide.{dec_le}
use native.Mathlib.Omega.{arith}
use lib.ListN.{length, drop}
use Rattle.theory.specs.Definitions.{Productive, Sentence, cost_of, Cost}
use Rattle.theory.specs.Grammar.{rul}
use Rattle.theory.specs.Sentences.{Grounded, Expands}
use Rattle.theory.specs.Visits.{Costs}
use Rattle.theory.proofs.Lengths.{length_grounded, grounded_length}
use Rattle.theory.proofs.Sentences.{grounded_expands, sentence_of}
use Rattle.grammar.specs.Flat.{Flat, denoted, price}
use Rattle.grammar.specs.Outcome.{Outcome, answers, refused}
use Rattle.grammar.proofs.Outcomes.{not_both, refused_one, answers_one}
use Rattle.engine.specs.Cost.{costs_of}
use Rattle.costs.proofs.Exactly.{Dear, Least, kinds}
use Rattle.sentences.specs.Lent.{lengths_of}
use Rattle.sentences.specs.Query.{Lends, Says, Sentenced}

-- the sentence is longer than 65535 or than the room lent
abbrev pub TooLong : List ℕ → List ℕ → Type 0
TooLong out w = (65535 < length w) ⊎ (length out < length w)

pub data Fate (g : Flat) (c : Costs) (r : ℕ) (out : List ℕ) : Type 0 where
  none : (Productive (denoted g) r → ⊥) → Fate g c r out
  dear : Dear g r → Fate g c r out
  circular : Least g r → (Grounded (denoted g) (price g) c (rul r ∷ []) → ⊥) → Fate g c r out
  long : (w : List ℕ) → Expands (denoted g) (price g) c (rul r ∷ []) w → TooLong out w → Fate g c r out
  is : (w : List ℕ) → Expands (denoted g) (price g) c (rul r ∷ []) w → length w ≤ 65535 → length w ≤ length out → Fate g c r out

-- it is one of the five, by the tables
pub fate : (g : Flat) (r : ℕ) (out : List ℕ) {s : Outcome ℕ} {a : Lends} → Sentenced g r out s a → Fate g (costs_of a.cost) r out
fate g r out {s} {a} x = elim (kinds g r x.cost) [
  | inl h ↦ none h
  | inr (inl h) ↦ dear h
  | inr (inr h) ↦ let l = x.lengths.exact r in elim (dec_le (lengths_of a.lengths r) 65536) [
    | yes i ↦ let w = grounded_expands (length_grounded l i) in fits w.0 w.1
    | no i ↦ circular h (λ y. i (grounded_length l y))
  ]
]
  where
    fits : (w : List ℕ) → Expands (denoted g) (price g) (costs_of a.cost) (rul r ∷ []) w → Fate g (costs_of a.cost) r out
    fits w y = elim (dec_le (length w) 65535) [
      | yes l ↦ elim (dec_le (length w) (length out)) [ yes k ↦ is w y l k | no k ↦ long w y (inr (omega arith)) ]
      | no l ↦ long w y (inl (omega arith))
    ]

-- what is said of each
abbrev pub said : {g : Flat} {c : Costs} {r : ℕ} {out : List ℕ} → Fate g c r out → Outcome ℕ
said (none h) = refused 12
said (dear h) = refused 13
said (circular n h) = refused 14
said (long w x h) = refused 15
said (is w x a b) = answers (length w)

-- and what the output is
abbrev pub left : {g : Flat} {c : Costs} {r : ℕ} {out : List ℕ} → Fate g c r out → List ℕ
left {out = out} (none h) = out
left {out = out} (dear h) = out
left {out = out} (circular n h) = out
left {out = out} (long w x h) = out
left {out = out} (is w x a b) = w ++ drop (length w) out

module _ {g : Flat} {c : Costs} {r : ℕ} {out : List ℕ} {s : Outcome ℕ} {to : List ℕ} (x : Says g c r out s to) where
  pub says_said : (f : Fate g c r out) → s ≡ said f
  says_said (none h) = (x.none h).number
  says_said (dear h) = (x.dear h.0 h.1).number
  says_said (circular n h) = (x.circular n.0 n.1 n.2 h).number
  says_said (long w y h) = (x.long w y h).number
  says_said (is w y a b) = (x.is w y a b).number

  pub says_left : (f : Fate g c r out) → to ≡ left f
  says_left (none h) = (x.none h).kept
  says_left (dear h) = (x.dear h.0 h.1).kept
  says_left (circular n h) = (x.circular n.0 n.1 n.2 h).kept
  says_left (long w y h) = (x.long w y h).kept
  says_left (is w y a b) = (x.is w y a b).tokens

module _ (g : Flat) (r : ℕ) (out : List ℕ) {s : Outcome ℕ} {a : Lends} (x : Sentenced g r out s a) where
  -- 12 exactly where the rule has no sentence
  pub twelve : (s ≡ refused 12) ↔ (Productive (denoted g) r → ⊥)
  twelve = (λ e. go (fate g r out x) (sym (says_said x.says (fate g r out x)) ∙ e), λ h. (x.says.none h).number)
    where
      go : (f : Fate g (costs_of a.cost) r out) → said f ≡ refused 12 → Productive (denoted g) r → ⊥
      go (none h) e = h
      go (dear h) e = absurd (omega (arith, refused_one e))
      go (circular n h) e = absurd (omega (arith, refused_one e))
      go (long w y h) e = absurd (omega (arith, refused_one e))
      go (is w y k l) e = absurd (not_both e)

  -- 13 exactly where it has one and none costs 65535 or less
  pub thirteen : (s ≡ refused 13) ↔ Dear g r
  thirteen = (λ e. go (fate g r out x) (sym (says_said x.says (fate g r out x)) ∙ e), λ h. (x.says.dear h.0 h.1).number)
    where
      go : (f : Fate g (costs_of a.cost) r out) → said f ≡ refused 13 → Dear g r
      go (none h) e = absurd (omega (arith, refused_one e))
      go (dear h) e = h
      go (circular n h) e = absurd (omega (arith, refused_one e))
      go (long w y h) e = absurd (omega (arith, refused_one e))
      go (is w y k l) e = absurd (not_both e)

  -- 14 exactly where it has a cost and is not grounded in the least reading
  pub fourteen : (s ≡ refused 14) ↔ (Least g r × (Grounded (denoted g) (price g) (costs_of a.cost) (rul r ∷ []) → ⊥))
  fourteen = (λ e. go (fate g r out x) (sym (says_said x.says (fate g r out x)) ∙ e), λ h. (x.says.circular h.0.0 h.0.1 h.0.2 h.1).number)
    where
      go : (f : Fate g (costs_of a.cost) r out) → said f ≡ refused 14 → Least g r × (Grounded (denoted g) (price g) (costs_of a.cost) (rul r ∷ []) → ⊥)
      go (none h) e = absurd (omega (arith, refused_one e))
      go (dear h) e = absurd (omega (arith, refused_one e))
      go (circular n h) e = (n, h)
      go (long w y h) e = absurd (omega (arith, refused_one e))
      go (is w y k l) e = absurd (not_both e)

  -- 15 exactly where its sentence is longer than 65535 or than the room
  pub fifteen : (s ≡ refused 15) ↔ ((w : List ℕ) × Expands (denoted g) (price g) (costs_of a.cost) (rul r ∷ []) w × TooLong out w)
  fifteen = (λ e. go (fate g r out x) (sym (says_said x.says (fate g r out x)) ∙ e), λ h. (x.says.long h.0 h.1 h.2).number)
    where
      go : (f : Fate g (costs_of a.cost) r out) → said f ≡ refused 15 → (w : List ℕ) × Expands (denoted g) (price g) (costs_of a.cost) (rul r ∷ []) w × TooLong out w
      go (none h) e = absurd (omega (arith, refused_one e))
      go (dear h) e = absurd (omega (arith, refused_one e))
      go (circular n h) e = absurd (omega (arith, refused_one e))
      go (long w y h) e = (w, y, h)
      go (is w y k l) e = absurd (not_both e)

-- an answer n: a sentence of the rule by derivation, n tokens long, that costs the rule's COST, at the front of the output
pub record Cheapest (g : Flat) (c : Costs) (r n : ℕ) (out to : List ℕ) : Type 0 where
  pub w : List ℕ
  pub expands : Expands (denoted g) (price g) c (rul r ∷ []) w
  pub sentence : Sentence (denoted g) r w
  pub cost : Cost (denoted g) (price g) r (cost_of (price g) w)
  pub long : length w ≡ n
  pub tokens : to ≡ w ++ drop (length w) out

pub cheapest : (g : Flat) (r : ℕ) (out : List ℕ) {n : ℕ} {a : Lends} → Sentenced g r out (answers n) a → Cheapest g (costs_of a.cost) r n out a.out
cheapest g r out {n} {a} x = go (fate g r out x) (says_said x.says (fate g r out x)) (says_left x.says (fate g r out x))
  where
    go : (f : Fate g (costs_of a.cost) r out) → answers n ≡ said f → a.out ≡ left f → Cheapest g (costs_of a.cost) r n out a.out
    go (none h) e k = absurd (not_both e)
    go (dear h) e k = absurd (not_both e)
    go (circular i h) e k = absurd (not_both e)
    go (long w y h) e k = absurd (not_both e)
    go (is w y i l) e k =
        let d = sentence_of y in
        record { w = w; expands = y; sentence = d.0; cost = rw d.1 (x.cost.exact r); long = sym (answers_one e); tokens = k }
