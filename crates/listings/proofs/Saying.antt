-- What the finished tables say of a rule: 12 to 14, 16, how many; and of number k: 15, or its sentence.
use Rattle.grammar.specs.Outcome.{Outcome}
use mathlib.Core.Bool.{true, false, ◌&&◌, true≢false}
use mathlib.Core.List.{List, ◌++◌}
use mathlib.Core.Logic.{◌⊎◌, inl, inr}
use mathlib.Core.Path.{◌≡◌, refl, sym, ap, ◌∙◌, subst}
use Prim.Native.Nat.{ℕ, ◌+◌, ◌≤◌, ◌<◌, min}
use native.Mathlib.Decide.{dec_le}
use native.Mathlib.Omega.{arith}
use lib.Dec.{leb}
use lib.ListN.{length, replicate, drop}
use lib.Seq.{sets, sets-eq}
use borrow.Author.Tests.{leb-true, le-leb}
use Rattle.theory.specs.Definitions.{Sentence, cost_of, Productive, Cost}
use Rattle.theory.specs.Grammar.{Grammar}
use Rattle.theory.specs.Search.{Chain, one, link}
use Rattle.theory.specs.Visits.{Costs}
use Rattle.theory.specs.Cheapest.{Leads, Circular}
use Rattle.theory.specs.Listing.{sentence_at}
use Rattle.theory.specs.Counts.{Count, counted, many, none}
use Rattle.theory.proofs.Bools.{and_split, and_join}
use Rattle.theory.proofs.Depth.{deep_not_circular, deep_or_circular}
use Rattle.theory.proofs.Counts.{known_count, count_one, count_known}
use Rattle.grammar.specs.Flat.{Flat, at, denoted, price}
use Rattle.grammar.specs.Outcome.{answers, refused}
use Rattle.grammar.proofs.Denoted.{proper}
use Rattle.grammar.proofs.Outcomes.{not_both, answers_one}
use Rattle.sentences.specs.Expanding.{Wrote}
use Rattle.sentences.proofs.Expanding.{remembers_none}
use Rattle.engine.specs.Cost.{costs_of}
use Rattle.engine.proofs.Summing.{entry}
use Rattle.costs.specs.Query.{entry_due, entry_refusal}
use Rattle.costs.proofs.Entry.{due_cost, due_none, due_12, due_13, refusal_due, refusal_none}
use Rattle.sentences.specs.Query.{Refuses}
use Rattle.listings.specs.Calls.{counts_of, work, Lists, Counts, Numbers}
use Rattle.listings.specs.Counting.{deep_by, many_by, Ground}
use Rattle.listings.specs.Numbers.{rule_words, RuleMeasurable, RuleWritable}
use Rattle.listings.specs.Working.{CountReady, NumberReady}
use Rattle.listings.proofs.Counting.{count_entry}
use Rattle.listings.proofs.Exactly.{Fate, none as no_sentence, dear, circular, many as too_many, is, fate}

-- where a chain of cheapest productions begins is a cost
chain_priced : (g : Grammar) (k : ℕ → ℕ) (c : Costs) {a b : ℕ} → Chain (Leads g k c) a b → c a ≤ 65535
chain_priced g k c (one u) = u.cheapest.priced
chain_priced g k c (link u x) = u.cheapest.priced

-- the count of a rule, by what its entries are
module _ (g : Flat) (r : ℕ) (cost counts : List ℕ) (ok : CountReady g r cost counts) where
  abbrev c : ℕ → ℕ
  c = costs_of cost

  abbrev n : ℕ
  n = counts_of counts r

  costs_it : Cost (denoted g) (price g) r (c r)
  costs_it = ok.cost_defined.exact r

  -- only a rule with a cost has a cheapest production
  circular_priced : Circular (denoted g) (price g) c r → c r ≤ 65535
  circular_priced y = elim y.reached [
    | inl d ↦ subst (λ z. c z ≤ 65535) d (chain_priced (denoted g) (price g) c y.itself)
    | inr x ↦ chain_priced (denoted g) (price g) c x
  ]

  pub counts_due : (due : ℕ) → due ≡ entry_due (c r) → (due ≡ 0 → ⊥) → Counts g c r (refused due)
  counts_due due e k = record {
    none = λ h. ap refused (e ∙ due_12 costs_it h);
    dear = λ h s. ap refused (e ∙ due_13 costs_it h s);
    circular = λ y. absurd (priced (circular_priced y));
    many = λ l h. absurd (priced l.priced);
    is = λ l h. absurd (priced l.priced);
  }
    where
      priced : c r ≤ 65535 → ⊥
      priced le = k (e ∙ sym (due_cost (c r) le))

  module _ (le : c r ≤ 65535) where
    productive : Productive (denoted g) r
    productive = costs_it.known (omega arith)

    not_dear : ((w : List ℕ) → Sentence (denoted g) r w → 65536 ≤ cost_of (price g) w) → ⊥
    not_dear s = let w = costs_it.met le in omega (arith, s w.0 w.1, w.2)

    pub counts_14 : 65536 < n → Counts g c r (refused 14)
    counts_14 lt = let y = is_circular (ok.counts_defined.exact r) in record {
      none = λ h. absurd (h productive);
      dear = λ h s. absurd (not_dear s);
      circular = λ z. refl;
      many = λ l h. absurd (l.straight y);
      is = λ l h. absurd (l.straight y);
    }
      where
        is_circular : Count (denoted g) (price g) c r n → Circular (denoted g) (price g) c r
        is_circular (counted a b h z) = absurd (omega arith)
        is_circular (many a b h z) = absurd (omega arith)
        is_circular (none (inl h) z) = absurd (omega arith)
        is_circular (none (inr y) z) = y

    module _ (low : n ≤ 65536) where
      exact : (deep_by g cost g.rules r ≡ true) × (n ≡ min (many_by g cost r) 65536)
      exact = count_known (denoted g) (price g) c (proper g ok.well) ok.cost_defined.exact (ok.counts_defined.exact r) low

      straight : Circular (denoted g) (price g) c r → ⊥
      straight = deep_not_circular (denoted g) (price g) c g.rules r exact.0

      pub counts_16 : 65535 < n → Counts g c r (refused 16)
      counts_16 lt = record {
        none = λ h. absurd (h productive);
        dear = λ h s. absurd (not_dear s);
        circular = λ y. absurd (straight y);
        many = λ l h. refl;
        is = λ l h. absurd (omega (arith, exact.1));
      }

      pub counts_are : n ≤ 65535 → Counts g c r (answers n)
      counts_are short = record {
        none = λ h. absurd (h productive);
        dear = λ h s. absurd (not_dear s);
        circular = λ y. absurd (straight y);
        many = λ l h. absurd (omega (arith, exact.1));
        is = λ l h. ap answers (let q : n ≡ many_by g cost r = omega (arith, exact.1) in q);
      }

-- the same from what the tests on the way answered
module _ (g : Flat) (r : ℕ) (cost counts : List ℕ) (ok : CountReady g r cost counts) (least : ℕ) (el : least ≡ at cost r) where
  is_due : entry_due least ≡ entry_due (costs_of cost r)
  is_due = ap entry_due (el ∙ sym (entry cost r (omega (arith, ok.is_rule, ok.cost_defined.long))))

  pub count_due : (due : ℕ) → refused due ≡ entry_refusal least → Counts g (costs_of cost) r (refused due)
  count_due due h = let k = refusal_due least due h in counts_due g r cost counts ok due (k.0 ∙ is_due) k.1

  module _ (h : answers tt ≡ entry_refusal least) (total : ℕ) (et : total ≡ at counts r) where
    cheap : costs_of cost r ≤ 65535
    cheap = due_none (costs_of cost r) (sym is_due ∙ sym (refusal_none least h))

    is_count : total ≡ counts_of counts r
    is_count = et ∙ sym (count_entry counts r (omega (arith, ok.is_rule, ok.counts_defined.long)))

    pub count_14 : 65536 < total → Counts g (costs_of cost) r (refused 14)
    count_14 k = counts_14 g r cost counts ok cheap (omega (arith, is_count))

    module _ (k : total ≤ 65536) where
      pub count_16 : 65535 < total → Counts g (costs_of cost) r (refused 16)
      count_16 i = counts_16 g r cost counts ok cheap (omega (arith, is_count)) (omega (arith, is_count))

      pub count_are : total ≤ 65535 → Counts g (costs_of cost) r (answers total)
      count_are i = subst (λ z. Counts g (costs_of cost) r (answers z)) (sym is_count) (counts_are g r cost counts ok cheap (omega (arith, is_count)) (omega (arith, is_count)))

-- number k, from the count's answer
module _ (g : Flat) (r : ℕ) (cost next choice lengths counts : List ℕ) (ok : NumberReady g r cost next choice lengths counts) where
  pub number_count : CountReady g r cost counts
  number_count = record {
    well = ok.well;
    cost_defined = ok.worked.final.cost;
    counts_defined = ok.worked.final.counts;
    is_rule = ok.is_rule;
  }

  ground : Ground g next cost choice
  ground = record { well = ok.well; links = ok.worked.links; prices = ok.worked.final.cost; picks = ok.worked.picks }

  module _ (a : Outcome ℕ) (said : Counts g (costs_of cost) r a) (k : ℕ) where
    -- a refused count is refused here too
    pub number_refused : (out : List ℕ) (n : ℕ) → a ≡ refused n → Numbers g (costs_of cost) r k out (refused n) out
    number_refused out n e = record {
      none = λ h. same 12 (said.none h);
      dear = λ h s. same 13 (said.dear h s);
      circular = λ y. same 14 (said.circular y);
      past = λ l h. same 16 (said.many l (over l h));
      long = λ l h i t. absurd (not_both (sym (said.is l h) ∙ e));
      is = λ l h i s t. absurd (not_both (sym (said.is l h) ∙ e));
    }
      where
        same : (i : ℕ) → a ≡ refused i → Refuses i out (refused n) out
        same i d = record { number = sym e ∙ d; kept = refl }

        over : (l : Lists g (costs_of cost) r) → (65535 < many_by g cost r) ⊎ (many_by g cost r ≤ k) → 65535 < many_by g cost r
        over l h = elim (dec_le (many_by g cost r) 65535) [ yes i ↦ absurd (not_both (sym (said.is l i) ∙ e)) | no i ↦ omega arith ]

    module _ (total : ℕ) (told : a ≡ answers total) where
      total_is : Lists g (costs_of cost) r → many_by g cost r ≤ 65535 → total ≡ many_by g cost r
      total_is l h = answers_one (sym told ∙ said.is l h)

      few : Lists g (costs_of cost) r → many_by g cost r ≤ 65535
      few l = elim (dec_le (many_by g cost r) 65535) [ yes i ↦ i | no i ↦ absurd (not_both (sym told ∙ said.many l (omega arith))) ]

      -- the rule has a list, and the answer is its count
      lists : Lists g (costs_of cost) r
      lists = go (fate g r (work cost lengths counts) ok.worked.final)
        where
          go : Fate g (costs_of cost) r → Lists g (costs_of cost) r
          go (no_sentence h) = absurd (not_both (sym told ∙ said.none h))
          go (dear h) = absurd (not_both (sym told ∙ said.dear h.0 h.1))
          go (circular y) = absurd (not_both (sym told ∙ said.circular y))
          go (too_many l h) = l
          go (is l h) = l

      total_of : total ≡ many_by g cost r
      total_of = total_is lists (few lists)

      pub number_past : (out : List ℕ) → total ≤ k → Numbers g (costs_of cost) r k out (refused 16) out
      number_past out i = record {
        none = λ h. absurd (not_both (sym told ∙ said.none h));
        dear = λ h s. absurd (not_both (sym told ∙ said.dear h s));
        circular = λ y. absurd (lists.straight y);
        past = λ l h. record { number = refl; kept = refl };
        long = λ l h j t. absurd (omega (arith, total_of));
        is = λ l h j s t. absurd (omega (arith, total_of));
      }

      module _ (below : k < total) (n : ℕ) (en : n ≡ g.rules) where
        deep_it : deep_by g cost g.rules r ≡ true
        deep_it = elim (deep_or_circular (denoted g) (price g) (costs_of cost) (proper g ok.well) ok.worked.final.cost.exact r lists.priced) [ inl d ↦ d | inr y ↦ absurd (lists.straight y) ]

        count_is : counts_of counts r ≡ many_by g cost r
        count_is =
            let q = count_one (denoted g) (price g) (costs_of cost) (ok.worked.final.counts.exact r) (known_count (denoted g) (price g) (costs_of cost) (proper g ok.well) ok.worked.final.cost.exact (min (many_by g cost r) 65536) deep_it refl) in
            omega (arith, q, few lists)

        pub number_measure : RuleMeasurable g next cost choice lengths counts n r k
        number_measure = record {
          numbered = record {
            ground = ground;
            counts_defined = ok.worked.final.counts;
            is_rule = ok.is_rule;
            within = ap (λ (z : ℕ). deep_by g cost z r) en ∙ deep_it;
            few = omega (arith, count_is, few lists);
            below = omega (arith, count_is, total_of);
          };
          lengths_defined = ok.worked.final.lengths;
        }

        words_are : rule_words g cost n r k ≡ sentence_at (denoted g) (price g) (costs_of cost) r k
        words_are = ap (λ (z : ℕ). rule_words g cost z r k) en

        module _ (long : ℕ) (el : long ≡ min (length (rule_words g cost n r k)) 65536) (out : List ℕ) where
          module _ (f : (leb long 65535 && leb long (length out)) ≡ true) where
            short : length (rule_words g cost n r k) ≡ long
            short = omega (arith, el, leb-true long 65535 (and_split (leb long 65535) _ f).0)

            room : length (rule_words g cost n r k) ≤ length out
            room = omega (arith, short, leb-true long (length out) (and_split (leb long 65535) _ f).1)

            pub number_write : RuleWritable g next cost choice lengths counts n r k 0 (replicate 512 65535) out
            number_write = record {
              measure = number_measure;
              room = omega (arith, room);
              most = omega (arith, short, leb-true long 65535 (and_split (leb long 65535) _ f).0);
              remembers = remembers_none g ground.well choice out;
            }

            pub number_is : (x : ℕ) (begun to : List ℕ) → Wrote g choice out 0 (rule_words g cost n r k) begun to x → Numbers g (costs_of cost) r k out (answers long) to
            number_is x begun to w = record {
              none = λ h. absurd (not_both (sym told ∙ said.none h));
              dear = λ h i. absurd (not_both (sym told ∙ said.dear h i));
              circular = λ y. absurd (lists.straight y);
              past = λ l h. absurd (over h);
              long = λ l h j t. absurd (fits t);
              is = λ l h j u v. record {
                number = ap answers (sym short ∙ ap length words_are);
                tokens =
                    w.appends.left
                    ∙ ap (sets out 0) words_are
                    ∙ sets-eq (sentence_at (denoted g) (price g) (costs_of cost) r k) out 0 (omega (arith, v))
                    ∙ ap (λ (i : ℕ). sentence_at (denoted g) (price g) (costs_of cost) r k ++ drop i out) {x = 0 + length (sentence_at (denoted g) (price g) (costs_of cost) r k)} {y = length (sentence_at (denoted g) (price g) (costs_of cost) r k)} (omega arith);
              };
            }
              where
                over : (65535 < many_by g cost r) ⊎ (many_by g cost r ≤ k) → ⊥
                over (inl h) = omega (arith, few lists)
                over (inr h) = omega (arith, total_of)

                fits : (65535 < length (sentence_at (denoted g) (price g) (costs_of cost) r k)) ⊎ (length out < length (sentence_at (denoted g) (price g) (costs_of cost) r k)) → ⊥
                fits (inl h) = omega (arith, short, ap length words_are, leb-true long 65535 (and_split (leb long 65535) _ f).0)
                fits (inr h) = omega (arith, room, ap length words_are)

          pub number_long : (leb long 65535 && leb long (length out)) ≡ false → Numbers g (costs_of cost) r k out (refused 15) out
          number_long f = record {
            none = λ h. absurd (not_both (sym told ∙ said.none h));
            dear = λ h i. absurd (not_both (sym told ∙ said.dear h i));
            circular = λ y. absurd (lists.straight y);
            past = λ l h. absurd (over h);
            long = λ l h j t. record { number = refl; kept = refl };
            is = λ l h j u v. absurd (true≢false (sym (and_join (le-leb long 65535 (omega (arith, el, u, ap length words_are))) (le-leb long (length out) (omega (arith, el, u, v, ap length words_are)))) ∙ f));
          }
            where
              over : (65535 < many_by g cost r) ⊎ (many_by g cost r ≤ k) → ⊥
              over (inl h) = omega (arith, few lists)
              over (inr h) = omega (arith, total_of)
