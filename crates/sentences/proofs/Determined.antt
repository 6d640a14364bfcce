-- The promise determines the answer and every lent number: any two results that it allows are equal.
use Rattle.grammar.proofs.Determined.{outcome_one}
use Rattle.grammar.specs.declared.refusal.Refusal.{Refusal}
use Rattle.std.specs.Prelude.{Result}
use mathlib.Core.List.{List}
use mathlib.Core.Path.{◌≡◌, sym, ◌∙◌, ap, subst}
use Prim.Native.Nat.{ℕ}
use Rattle.theory.proofs.Lengths.{lengths_one}
use Rattle.grammar.specs.Flat.{Flat}
use Rattle.grammar.specs.Outcome.{Outcome}
use Rattle.tables.proofs.Calls.{Both, call_one}
use Rattle.engine.specs.Cost.{costs_of}
use Rattle.costs.proofs.Determined.{cost_defined_one}
use Rattle.sentences.specs.Measuring.{LengthsDefined}
use Rattle.sentences.specs.Query.{Lends, lends, sentence_due, Says, Sentenced, MinSentence}
use Rattle.sentences.proofs.Measuring.{lengths_words}
use Rattle.sentences.proofs.Exactly.{fate, says_said, says_left}

-- the defined lengths are one
pub lengths_defined_one : (g : Flat) {c : ℕ → ℕ} (a b : List ℕ) → LengthsDefined g c a → LengthsDefined g c b → a ≡ b
lengths_defined_one g a b x y = lengths_words a b (x.long ∙ sym y.long) (λ r. ap (λ z. z r) (lengths_one _ _ x.exact y.exact))

sentenced_one : (g : Flat) (r : ℕ) (out : List ℕ) (s t : Outcome ℕ) (a b : Lends) → Sentenced g r out s a → Sentenced g r out t b → Both s t a b
sentenced_one g r out s t a b x y =
    let c = cost_defined_one g a.cost b.cost x.cost y.cost in
    let z = subst (λ u. Says g (costs_of u) r out t b.out) (sym c) y.says in
    let f = fate g r out x in
    let l = lengths_defined_one g a.lengths b.lengths x.lengths (subst (λ u. LengthsDefined g (costs_of u) b.lengths) (sym c) y.lengths) in
    let o = says_left x.says f ∙ sym (says_left z f) in
    record {
      said = says_said x.says f ∙ sym (says_said z f);
      left = ap (λ u. lends u a.lengths a.out) c ∙ ap (λ u. lends b.cost u a.out) l ∙ ap (lends b.cost b.lengths) o;
    }

-- two results of the call
pub record SameSentence (r s : Result ℕ Refusal) (a b : Lends) : Type 0 where
  pub answer : r ≡ s
  pub cost_words : a.cost ≡ b.cost
  pub lengths_words : a.lengths ≡ b.lengths
  pub out_words : a.out ≡ b.out

pub min_sentence_one : (g : Flat) (rule : ℕ) (cost lengths out : List ℕ) {r s : Result ℕ Refusal} {c l o c' l' o' : List ℕ}
    → MinSentence g rule cost lengths out r c l o → MinSentence g rule cost lengths out s c' l' o' → SameSentence r s (lends c l o) (lends c' l' o')
min_sentence_one g rule cost lengths out {r} {s} x y =
    let o = call_one (sentenced_one g rule out) (sentence_due g rule (lends cost lengths out)) x y in
    record {
      answer = outcome_one o.said;
      cost_words = ap (λ z. z.cost) o.left;
      lengths_words = ap (λ z. z.lengths) o.left;
      out_words = ap (λ z. z.out) o.left;
    }
