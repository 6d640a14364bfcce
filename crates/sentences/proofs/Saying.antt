-- What the finished tables say of a rule: 12 to 15, or its sentence.
use mathlib.Core.Bool.{true, false, ◌&&◌, true≢false}
use mathlib.Core.List.{List, [], ◌∷◌, ◌++◌}
use mathlib.Core.Logic.{◌⊎◌, inl, inr}
use mathlib.Core.Path.{◌≡◌, refl, sym, ap, ◌∙◌}
use Prim.Native.Nat.{ℕ, ◌+◌, ◌≤◌, ◌<◌}
use native.Mathlib.Decide.{dec_le}
use native.Mathlib.Omega.{arith}
use lib.Dec.{leb}
use lib.ListN.{length, drop, replicate}
use lib.Seq.{sets, sets-eq}
use borrow.Author.Tests.{leb-true, le-leb}
use Rattle.theory.specs.Definitions.{Productive, Sentence, cost_of, Cost}
use Rattle.theory.specs.Grammar.{rul}
use Rattle.theory.specs.Levels.{Length, within, expanded}
use Rattle.theory.specs.Sentences.{Expands, erul}
use Rattle.theory.proofs.Bools.{and_split, and_join}
use Rattle.theory.proofs.Cost.{cost_one}
use Rattle.theory.proofs.Expanding.{expands_expanded, expanded_length, known_within}
use Rattle.theory.proofs.Lengths.{length_grounded, grounded_length, length_sentence, length_long_law}
use Rattle.theory.proofs.Sentences.{expands_grounded}
use Rattle.grammar.specs.Flat.{Flat, at, denoted, price}
use Rattle.grammar.specs.Outcome.{answers, refused}
use Rattle.grammar.proofs.Denoted.{proper}
use Rattle.engine.specs.Cost.{costs_of}
use Rattle.engine.proofs.Summing.{entry}
use Rattle.costs.specs.Query.{entry_due, entry_refusal}
use Rattle.costs.proofs.Entry.{due_cost, due_none, due_12, due_13, refusal_due, refusal_none}
use Rattle.tables.specs.Append.{Appended}
use Rattle.sentences.specs.Lent.{choices_of, lengths_of}
use Rattle.sentences.specs.Expanding.{RuleReady, Wrote}
use Rattle.sentences.specs.Query.{Refuses, Says}
use Rattle.sentences.specs.Working.{Finished}
use Rattle.sentences.proofs.Counting.{length_entry}
use Rattle.sentences.proofs.Expanding.{leads_way, remembers_none}

-- by its own table a rule with a sentence by first choices has a cost
expands_priced : (g : Flat) (c : ℕ → ℕ) (r : ℕ) {w : List ℕ} → Expands (denoted g) (price g) c (rul r ∷ []) w → c r ≤ 65535
expands_priced g c r (erul p d x y e) = d.priced

kept : (n : ℕ) (out : List ℕ) {m : ℕ} → m ≡ n → Refuses n out (refused m) out
kept n out e = record { number = ap refused e; kept = refl }

module _ (g : Flat) (r : ℕ) (cost choice lengths out : List ℕ) (ok : Finished g r cost choice lengths) where
  abbrev c : ℕ → ℕ
  c = costs_of cost

  abbrev l : ℕ
  l = lengths_of lengths r

  costs_it : Cost (denoted g) (price g) r (c r)
  costs_it = ok.worked.prices.exact r

  long_it : Length (denoted g) (price g) c r l
  long_it = ok.worked.counts.exact r

  known : {w : List ℕ} → Expands (denoted g) (price g) c (rul r ∷ []) w → l ≤ 65536
  known x = grounded_length long_it (expands_grounded x)

  pub says_due : (due : ℕ) → due ≡ entry_due (c r) → (due ≡ 0 → ⊥) → Says g c r out (refused due) out
  says_due due e k = record {
    none = λ h. kept 12 out (e ∙ due_12 costs_it h);
    dear = λ h s. kept 13 out (e ∙ due_13 costs_it h s);
    circular = λ n le d h. absurd (priced (omega (arith, cost_one d costs_it)));
    long = λ w x h. absurd (priced (expands_priced g c r x));
    is = λ w x a b. absurd (priced (expands_priced g c r x));
  }
    where
      priced : c r ≤ 65535 → ⊥
      priced le = k (e ∙ sym (due_cost (c r) le))

  module _ (le : c r ≤ 65535) where
    not_12 : {A : Type 0} → (Productive (denoted g) r → ⊥) → A
    not_12 h = absurd (h (costs_it.known (omega arith)))

    not_13 : {A : Type 0} → ((w : List ℕ) → Sentence (denoted g) r w → 65536 ≤ cost_of (price g) w) → A
    not_13 s = let w = costs_it.met le in absurd (omega (arith, s w.0 w.1, w.2))

    pub says_14 : 65536 < l → Says g c r out (refused 14) out
    says_14 lt = record {
      none = λ h. not_12 h;
      dear = λ h s. not_13 s;
      circular = λ n a d h. kept 14 out refl;
      long = λ w x h. absurd (omega (arith, known x));
      is = λ w x a b. absurd (omega (arith, known x));
    }

    module _ (low : l ≤ 65536) where
      pub says_15 : (65535 < l) ⊎ (length out < l) → Says g c r out (refused 15) out
      says_15 lt = record {
        none = λ h. not_12 h;
        dear = λ h s. not_13 s;
        circular = λ n a d h. absurd (h (length_grounded long_it low));
        long = λ w x h. kept 15 out refl;
        is = λ w x a b. absurd (over w x a b (dec_le l 65535) lt);
      }
        where
          over : (w : List ℕ) → Expands (denoted g) (price g) c (rul r ∷ []) w → length w ≤ 65535 → length w ≤ length out → Dec (l ≤ 65535) → (65535 < l) ⊎ (length out < l) → ⊥
          over w x a b (yes k) (inl h) = omega arith
          over w x a b (yes k) (inr h) = omega (arith, length_sentence long_it k x)
          over w x a b (no k) h = omega (arith, length_long_law long_it (omega arith) x)

    module _ (short : l ≤ 65535) (fits : l ≤ length out) where
      pub says_ready : RuleReady g choice lengths g.rules r 0 (replicate 512 65535) out
      says_ready = record {
        led = record {
          well = ok.well;
          room = ok.worked.picks.room;
          long = ok.worked.counts.long;
          leads = leads_way g ok.well c choice lengths ok.worked.picks.chosen ok.worked.counts.exact;
        };
        is_rule = ok.is_rule;
        grounded = inside;
        fits = omega (arith, counted);
        most = omega (arith, counted);
        remembers = remembers_none g ok.well choice out;
      }
        where
          inside : within (denoted g) (choices_of choice) g.rules r ≡ true
          inside = known_within (denoted g) (price g) c (proper g ok.well) (choices_of choice) ok.worked.picks.chosen (lengths_of lengths) ok.worked.counts.exact r (omega arith)

          counted : length (expanded (denoted g) (choices_of choice) g.rules r) ≡ l
          counted = expanded_length (denoted g) (price g) c (proper g ok.well) (choices_of choice) ok.worked.picks.chosen (lengths_of lengths) ok.worked.counts.exact g.rules r inside short

      pub says_it : (n x : ℕ) (to : List ℕ) → n ≡ l → Appended out 0 (expanded (denoted g) (choices_of choice) g.rules r) to x → Says g c r out (answers n) to
      says_it n x to en k = record {
        none = λ h. not_12 h;
        dear = λ h s. not_13 s;
        circular = λ i a d h. absurd (h (length_grounded long_it (omega arith)));
        long = λ w y h. absurd (fit w y h);
        is = λ w y a b. record { number = ap answers (en ∙ sym (length_sentence long_it short y)); tokens = k.left ∙ ap (sets out 0) (sym (expands_expanded (denoted g) (price g) c (proper g ok.well) (choices_of choice) ok.worked.picks.chosen y)) ∙ sets-eq w out 0 (omega arith) ∙ ap (λ (i : ℕ). w ++ drop i out) {x = 0 + length w} {y = length w} (omega arith) };
      }
        where
          fit : (w : List ℕ) → Expands (denoted g) (price g) c (rul r ∷ []) w → (65535 < length w) ⊎ (length out < length w) → ⊥
          fit w y (inl h) = omega (arith, length_sentence long_it short y)
          fit w y (inr h) = omega (arith, length_sentence long_it short y)

-- the same from what the tests on the way answered
module _ (g : Flat) (r : ℕ) (cost choice lengths out : List ℕ) (ok : Finished g r cost choice lengths) (least : ℕ) (el : least ≡ at cost r) where
  is_due : entry_due least ≡ entry_due (costs_of cost r)
  is_due = ap entry_due (el ∙ sym (entry cost r (omega (arith, ok.is_rule, ok.worked.prices.long))))

  pub answer_due : (due : ℕ) → refused due ≡ entry_refusal least → Says g (costs_of cost) r out (refused due) out
  answer_due due h = let k = refusal_due least due h in says_due g r cost choice lengths out ok due (k.0 ∙ is_due) k.1

  module _ (h : answers tt ≡ entry_refusal least) (long : ℕ) (eg : long ≡ at lengths r) where
    cheap : costs_of cost r ≤ 65535
    cheap = due_none (costs_of cost r) (sym is_due ∙ sym (refusal_none least h))

    is_long : long ≡ lengths_of lengths r
    is_long = eg ∙ sym (length_entry lengths r (omega (arith, ok.is_rule, ok.worked.counts.long)))

    pub answer_14 : 65536 < long → Says g (costs_of cost) r out (refused 14) out
    answer_14 k = says_14 g r cost choice lengths out ok cheap (omega (arith, is_long))

    module _ (k : long ≤ 65536) where
      module _ (f : (leb long 65535 && leb long (length out)) ≡ true) (n : ℕ) (en : n ≡ g.rules) where
        short : lengths_of lengths r ≤ 65535
        short = omega (arith, leb-true long 65535 (and_split (leb long 65535) _ f).0, is_long)

        room : lengths_of lengths r ≤ length out
        room = omega (arith, leb-true long (length out) (and_split (leb long 65535) _ f).1, is_long)

        pub answer_ready : RuleReady g choice lengths n r 0 (replicate 512 65535) out
        answer_ready = rw en (says_ready g r cost choice lengths out ok cheap short room)

        pub answer_is : (x : ℕ) (begun to : List ℕ) → Wrote g choice out 0 (expanded (denoted g) (choices_of choice) n r) begun to x → Says g (costs_of cost) r out (answers long) to
        answer_is x begun to w = says_it g r cost choice lengths out ok cheap short room long x to is_long (rw en at w.appends)

      pub answer_15 : (leb long 65535 && leb long (length out)) ≡ false → Says g (costs_of cost) r out (refused 15) out
      answer_15 f = says_15 g r cost choice lengths out ok cheap (omega (arith, is_long)) (over (dec_le long 65535) (dec_le long (length out)))
        where
          over : Dec (long ≤ 65535) → Dec (long ≤ length out) → (65535 < lengths_of lengths r) ⊎ (length out < lengths_of lengths r)
          over (no x) y = inl (omega (arith, is_long))
          over (yes x) (no y) = inr (omega (arith, is_long))
          over (yes x) (yes y) = absurd (true≢false (sym (and_join (le-leb long 65535 x) (le-leb long (length out) y)) ∙ f))
