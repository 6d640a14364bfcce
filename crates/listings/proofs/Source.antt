-- Demand 2 for all cheapest sentences, on every grammar that the crate can build: where the source's `min_sentences` returns, the count is
-- that of its list, and number k is what stands at place k of it.
use Rattle.grammar.specs.declared.refusal.Refusal.{Refusal}
use Rattle.std.specs.Prelude.{Result}
use Rattle.grammar.specs.Lent.{outcome_of}
use mathlib.Core.List.{List, [], map}
use mathlib.Core.Path.{◌≡◌, sym, ◌∙◌, ap, subst}
use Prim.Native.Nat.{ℕ, ◌≤◌, ◌<◌}
use native.Mathlib.Omega.{arith}
use lib.ListN.{length, length-map, get_or}
use Rattle.theory.specs.Visits.{Costs}
use Rattle.theory.specs.Cheapest.{Circular}
use Rattle.theory.specs.Listing.{Item, nothing, listed, sentence_at}
use Rattle.theory.proofs.Odometer.{get_d_map}
use Rattle.source.specs.Costs.{start, Returns as CostsReturn}
use Rattle.source.specs.Sentence.{Sums}
use Rattle.source.specs.Sentences.{Returns}
use Rattle.source.proofs.Sentences.{Same, sentences_same, sentences_returns}
use Rattle.grammar.specs.Flat.{Flat, denoted, price}
use Rattle.grammar.specs.Outcome.{Outcome, answers, refused}
use Rattle.grammar.specs.Well.{Built}
use Rattle.grammar.proofs.Denoted.{proper}
use Rattle.engine.specs.Cost.{costs_of}
use Rattle.sentences.specs.Query.{Writes}
use Rattle.listings.specs.Calls.{Work, work, Final, all_due, Lists, CountDone, CountMinSentences, Lends, NumberDone, MinSentenceAt}
use Rattle.listings.proofs.Asking.{due_rule}

-- b is the source's list of costs, if it asks for one; sts is what its `min_sentences` returns
module _ (g : Flat) (w : Built g) (r : ℕ) (is_rule : r < g.rules) (b : Costs) (sts : List (List ℕ)) (y : Returns (denoted g) (price g) b r sts) (v : Work) (x : Final g v) where
  same : Same (denoted g) (price g) (costs_of v.cost) r sts
  same = sentences_same (denoted g) (price g) (proper g w.well) w.well.owned b (costs_of v.cost) x.cost.exact r is_rule sts y

  lists : Lists g (costs_of v.cost) r
  lists = record { priced = same.priced; straight = same.straight }

  long : length sts ≡ length (listed (denoted g) (price g) (costs_of v.cost) r)
  long = ap length same.is ∙ length-map (listed (denoted g) (price g) (costs_of v.cost) r) (λ i. i.tokens)

  at_place : (k : ℕ) → k < length sts → get_or sts k [] ≡ sentence_at (denoted g) (price g) (costs_of v.cost) r k
  at_place k lt = ap (λ z. get_or z k []) same.is ∙ get_d_map (λ (i : Item). i.tokens) (listed (denoted g) (price g) (costs_of v.cost) r) k nothing [] (omega (arith, lt, long))

module _ (g : Flat) (w : Built g) (r : ℕ) (is_rule : r < g.rules) (b : Costs) (sts : List (List ℕ)) (y : Returns (denoted g) (price g) b r sts) where
  pub count_equal : {s : Outcome ℕ} {a : Work} → CountDone g r s a → length sts ≤ 65535 → s ≡ answers (length sts)
  count_equal {s} {a} d h =
      let e = long g w r is_rule b sts y a d.final in
      d.counts.is (lists g w r is_rule b sts y a d.final) (omega (arith, h, e)) ∙ ap answers (sym e)

  -- where it lists more than 65535 the count is refused
  pub count_more : {s : Outcome ℕ} {a : Work} → CountDone g r s a → 65535 < length sts → s ≡ refused 16
  count_more {s} {a} d h = d.counts.many (lists g w r is_rule b sts y a d.final) (omega (arith, h, long g w r is_rule b sts y a d.final))

  pub number_equal : (k : ℕ) (out : List ℕ) {s : Outcome ℕ} {a : Lends} → NumberDone g r k out s a → length sts ≤ 65535 → k < length sts
      → length (get_or sts k []) ≤ 65535 → length (get_or sts k []) ≤ length out → Writes (get_or sts k []) out s a.out
  number_equal k out {s} {a} d few lt short room =
      let e = long g w r is_rule b sts y a.tables d.final in
      let q = at_place g w r is_rule b sts y a.tables d.final k lt in
      subst (λ z. Writes z out s a.out) (sym q)
      (d.numbers.is (lists g w r is_rule b sts y a.tables d.final) (omega (arith, few, e)) (omega (arith, lt, e)) (omega (arith, short, ap length q)) (omega (arith, room, ap length q)))

-- the same of the calls, whatever was lent to them
pub count_source : (g : Flat) → Built g → (r : ℕ) (cost lengths counts : List ℕ) → all_due g r (work cost lengths counts) ≡ answers tt
    → (q : Result ℕ Refusal) (cost' lengths' counts' : List ℕ) → CountMinSentences g r cost lengths counts q cost' lengths' counts'
    → (b : Costs) (sts : List (List ℕ)) → Returns (denoted g) (price g) b r sts → length sts ≤ 65535 → outcome_of q ≡ answers (length sts)
count_source g w r cost lengths counts due q cost' lengths' counts' m b sts y h = count_equal g w r (due_rule g r (length cost) (length lengths) (length counts) due) b sts y (m.does due) h

pub number_source : (g : Flat) → Built g → (r k : ℕ) (cost lengths counts out : List ℕ) → all_due g r (work cost lengths counts) ≡ answers tt
    → (q : Result ℕ Refusal) (cost' lengths' counts' out' : List ℕ) → MinSentenceAt g r k cost lengths counts out q cost' lengths' counts' out'
    → (b : Costs) (sts : List (List ℕ)) → Returns (denoted g) (price g) b r sts → length sts ≤ 65535 → k < length sts
    → length (get_or sts k []) ≤ 65535 → length (get_or sts k []) ≤ length out → Writes (get_or sts k []) out (outcome_of q) out'
number_source g w r k cost lengths counts out due q cost' lengths' counts' out' m b sts y few lt short room =
    number_equal g w r (due_rule g r (length cost) (length lengths) (length counts) due) b sts y k out (m.does due) few lt short room

-- it returns where the costs do, no sum is above 65535 and the rule is not circular
pub source_returns : (g : Flat) → Built g → (r : ℕ) → r < g.rules → (b : Costs) → CostsReturn (denoted g) (price g) start b → ((q : ℕ) → Sums (denoted g) (price g) b q)
    → (v : Work) → Final g v → (Circular (denoted g) (price g) (costs_of v.cost) r → ⊥) → Returns (denoted g) (price g) b r (map (λ i. i.tokens) (listed (denoted g) (price g) (costs_of v.cost) r))
source_returns g w r is_rule b ret sums v x u = sentences_returns (denoted g) (price g) (proper g w.well) w.well.owned b (costs_of v.cost) x.cost.exact ret sums r is_rule u
