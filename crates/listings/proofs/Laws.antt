-- What is listed, by document 02's sentences: each derivation through cheapest productions only once and nothing else, the sentences of
-- least cost and no others, and number 0 is the answer of the sentence call.
use mathlib.Core.List.{List, [], ◌∷◌}
use mathlib.Core.Logic.{◌⊎◌, inl, inr, ◌↔◌}
use mathlib.Core.Path.{◌≡◌, sym, ◌∙◌, ap, subst}
use Prim.Native.Nat.{ℕ, ◌≤◌, ◌<◌}
use native.Mathlib.Decide.{dec_le}
use native.Mathlib.Omega.{arith}
use lib.ListN.{length}
use Rattle.theory.specs.Definitions.{Sentence, cost_of}
use Rattle.theory.specs.Grammar.{rul}
use Rattle.theory.specs.Sentences.{Expands}
use Rattle.theory.specs.Listing.{listed, sentence_at, ListsAll}
use Rattle.theory.proofs.AllListed.{lists_all, lists_cheapest, listed_cheapest}
use Rattle.theory.proofs.Counts.{listing_some}
use Rattle.theory.proofs.Depth.{deep_or_circular}
use Rattle.theory.proofs.Numbers.{sentence_first}
use Rattle.grammar.specs.Flat.{Flat, denoted, price}
use Rattle.grammar.specs.Outcome.{Outcome}
use Rattle.grammar.specs.Well.{WellFormed}
use Rattle.grammar.proofs.Denoted.{proper}
use Rattle.tables.proofs.Calls.{Both}
use Rattle.engine.specs.Cost.{costs_of}
use Rattle.costs.proofs.Determined.{cost_defined_one}
use Rattle.sentences.specs.Query.{Says, Sentenced}
use Rattle.sentences.specs.Query as Sentence
use Rattle.listings.specs.Calls.{Work, Final, Lists, Lends, NumberDone}

module _ (g : Flat) (w : WellFormed g) (v : Work) (x : Final g v) (r : ℕ) (l : Lists g (costs_of v.cost) r) where
  -- each derivation through cheapest productions only is listed once, and nothing else
  pub all_listed : ListsAll (denoted g) (price g) (costs_of v.cost) r
  all_listed = lists_all (denoted g) (price g) (costs_of v.cost) (proper g w) x.cost.exact r l.priced l.straight

  -- the sentences listed are exactly those of least cost
  pub cheapest_listed : (s : List ℕ) → (Sentence (denoted g) r s × (cost_of (price g) s ≡ costs_of v.cost r)) ↔ ((i : ℕ) × (i < length (listed (denoted g) (price g) (costs_of v.cost) r)) × (sentence_at (denoted g) (price g) (costs_of v.cost) r i ≡ s))
  cheapest_listed s = (
    λ y. lists_cheapest (denoted g) (price g) (costs_of v.cost) (proper g w) x.cost.exact r l.priced l.straight s y.0 y.1,
    λ y.
        let z = listed_cheapest (denoted g) (price g) (costs_of v.cost) (proper g w) x.cost.exact r l.priced l.straight y.0 y.1 in
        (subst (Sentence (denoted g) r) y.2 z.0, ap (cost_of (price g)) (sym y.2) ∙ z.1),
  )

  -- there is one at least
  pub some_listed : 0 < length (listed (denoted g) (price g) (costs_of v.cost) r)
  some_listed = elim (deep_or_circular (denoted g) (price g) (costs_of v.cost) (proper g w) x.cost.exact r l.priced) [
    | inl d ↦ listing_some (denoted g) (price g) (costs_of v.cost) (proper g w) x.cost.exact g.rules r d
    | inr y ↦ absurd (l.straight y)
  ]

-- number 0 is what the sentence call says and writes
module _ (g : Flat) (w : WellFormed g) (r : ℕ) (out : List ℕ) {s t : Outcome ℕ} {a : Lends} {b : Sentence.Lends} (x : NumberDone g r 0 out s a) (y : Sentenced g r out t b) (l : Lists g (costs_of a.tables.cost) r) (few : length (listed (denoted g) (price g) (costs_of a.tables.cost) r) ≤ 65535) where
  abbrev word : List ℕ
  word = sentence_at (denoted g) (price g) (costs_of a.tables.cost) r 0

  some : 0 < length (listed (denoted g) (price g) (costs_of a.tables.cost) r)
  some = some_listed g w a.tables x.final r l

  expands : Expands (denoted g) (price g) (costs_of a.tables.cost) (rul r ∷ []) word
  expands = sentence_first (denoted g) (price g) (costs_of a.tables.cost) (proper g w) x.final.cost.exact r l.priced l.straight

  says : Says g (costs_of a.tables.cost) r out t b.out
  says = subst (λ z. Says g (costs_of z) r out t b.out) (sym (cost_defined_one g a.tables.cost b.cost x.final.cost y.cost)) y.says

  too_long : (65535 < length word) ⊎ (length out < length word) → Both s t a.out b.out
  too_long h = let p = x.numbers.long l few some h in let q = says.long word expands h in record { said = p.number ∙ sym q.number; left = p.kept ∙ sym q.kept }

  pub first_is : Both s t a.out b.out
  first_is = elim (dec_le (length word) 65535) [
    | no h ↦ too_long (inl (omega arith))
    | yes h ↦ elim (dec_le (length word) (length out)) [
      | no k ↦ too_long (inr (omega arith))
      | yes k ↦ let p = x.numbers.is l few some h k in let q = says.is word expands h k in record { said = p.number ∙ sym q.number; left = p.tokens ∙ sym q.tokens }
    ]
  ]
