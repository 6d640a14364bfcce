-- The promises of the count and of number i determine the answer and every lent number: any two results that they allow are equal.
use Rattle.grammar.proofs.Determined.{outcome_one}
use Rattle.grammar.specs.declared.refusal.Refusal.{Refusal}
use Rattle.std.specs.Prelude.{Result}
use mathlib.Core.List.{List}
use mathlib.Core.Path.{◌≡◌, sym, ◌∙◌, ap, subst}
use Prim.Native.Nat.{ℕ}
use lib.ListN.{length}
use lib.Seq.{ext_get_or}
use Rattle.theory.proofs.Counts.{counts_one}
use Rattle.grammar.specs.Flat.{Flat, denoted, price}
use Rattle.grammar.specs.Outcome.{Outcome}
use Rattle.tables.proofs.Calls.{Both, call_one}
use Rattle.engine.specs.Cost.{costs_of}
use Rattle.costs.proofs.Determined.{cost_defined_one}
use Rattle.listings.specs.Calls.{counts_of, CountsDefined, Work, work, Final, all_due, Counts, Numbers, CountDone, CountMinSentences, Lends, lends, NumberDone, MinSentenceAt}
use Rattle.sentences.specs.Measuring.{LengthsDefined}
use Rattle.sentences.proofs.Determined.{lengths_defined_one}
use Rattle.listings.proofs.Exactly.{fate, counts_said, row, numbers_said, numbers_left}

-- numbers of one length that mean the same counts are the same
counts_words : (a b : List ℕ) → length a ≡ length b → ((r : ℕ) → counts_of a r ≡ counts_of b r) → a ≡ b
unfolding counts_of
counts_words a b e h = ext_get_or 65537 a b e (λ i l. h i)

-- the defined counts are one
pub counts_defined_one : (g : Flat) {c : ℕ → ℕ} (a b : List ℕ) → CountsDefined g c a → CountsDefined g c b → a ≡ b
counts_defined_one g {c} a b x y = counts_words a b (x.long ∙ sym y.long) (λ r. ap (λ z. z r) (counts_one (denoted g) (price g) c _ _ x.exact y.exact))

-- the final tables are one
final_one : (g : Flat) (v w : Work) → Final g v → Final g w → v ≡ w
final_one g v w x y =
    let c = cost_defined_one g v.cost w.cost x.cost y.cost in
    let l = lengths_defined_one g v.lengths w.lengths x.lengths (subst (λ u. LengthsDefined g (costs_of u) w.lengths) (sym c) y.lengths) in
    let n = counts_defined_one g v.counts w.counts x.counts (subst (λ u. CountsDefined g (costs_of u) w.counts) (sym c) y.counts) in
    ap (λ u. work u v.lengths v.counts) c ∙ ap (λ u. work w.cost u v.counts) l ∙ ap (work w.cost w.lengths) n

count_done_one : (g : Flat) (r : ℕ) (s t : Outcome ℕ) (a b : Work) → CountDone g r s a → CountDone g r t b → Both s t a b
count_done_one g r s t a b x y =
    let e = final_one g a b x.final y.final in
    let f = fate g r a x.final in
    record {
      said = counts_said x.counts f ∙ sym (counts_said (subst (λ z. Counts g (costs_of z.cost) r t) (sym e) y.counts) f);
      left = e;
    }

number_done_one : (g : Flat) (r i : ℕ) (out : List ℕ) (s t : Outcome ℕ) (a b : Lends) → NumberDone g r i out s a → NumberDone g r i out t b → Both s t a b
number_done_one g r i out s t a b x y =
    let e = final_one g a.tables b.tables x.final y.final in
    let f = row g (costs_of a.tables.cost) r i out (fate g r a.tables x.final) in
    let z = subst (λ w. Numbers g (costs_of w.cost) r i out t b.out) (sym e) y.numbers in
    let o = numbers_left x.numbers f ∙ sym (numbers_left z f) in
    record { said = numbers_said x.numbers f ∙ sym (numbers_said z f); left = ap (λ w. lends w a.out) e ∙ ap (lends b.tables) o }

-- two results of the count, and two of number i
pub record SameCount (r s : Result ℕ Refusal) (a b : Work) : Type 0 where
  pub answer : r ≡ s
  pub tables : a ≡ b

pub count_min_sentences_one : (g : Flat) (rule : ℕ) (cost lengths counts : List ℕ) {r s : Result ℕ Refusal} {c l n c' l' n' : List ℕ}
    → CountMinSentences g rule cost lengths counts r c l n → CountMinSentences g rule cost lengths counts s c' l' n' → SameCount r s (work c l n) (work c' l' n')
count_min_sentences_one g rule cost lengths counts {r} {s} x y =
    let o = call_one (count_done_one g rule) (all_due g rule (work cost lengths counts)) x y in
    record { answer = outcome_one o.said; tables = o.left }

pub record SameNumber (r s : Result ℕ Refusal) (a b : Lends) : Type 0 where
  pub answer : r ≡ s
  pub memory : a ≡ b

pub min_sentence_at_one : (g : Flat) (rule i : ℕ) (cost lengths counts out : List ℕ) {r s : Result ℕ Refusal} {c l n o c' l' n' o' : List ℕ}
    → MinSentenceAt g rule i cost lengths counts out r c l n o → MinSentenceAt g rule i cost lengths counts out s c' l' n' o' → SameNumber r s (lends (work c l n) o) (lends (work c' l' n') o')
min_sentence_at_one g rule i cost lengths counts out {r} {s} x y =
    let o = call_one (number_done_one g rule i out) (all_due g rule (work cost lengths counts)) x y in
    record { answer = outcome_one o.said; memory = o.left }
