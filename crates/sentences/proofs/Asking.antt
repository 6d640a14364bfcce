-- What the returns of the call owe, from what its entry answered.
use mathlib.Core.Bool.{Bool, ◌||◌}
use mathlib.Core.List.{List, [], ◌∷◌}
use mathlib.Core.Path.{◌≡◌, refl, ◌∙◌, ap}
use Prim.Native.Nat.{ℕ}
use native.Mathlib.Omega.{arith}
use lib.Dec.{leb}
use lib.ListN.{length, replicate}
use borrow.Author.Tests.{leb-false}
use Rattle.theory.proofs.Bools.{or_none}
use Rattle.grammar.specs.Flat.{Flat}
use Rattle.grammar.specs.Outcome.{Outcome, answers, refused}
use Rattle.grammar.specs.Production.{or_due}
use Rattle.grammar.specs.Refusals.{unless_due}
use Rattle.grammar.specs.Well.{WellFormed}
use Rattle.grammar.proofs.Entry.{NoneOf, also, none_due, unless_or}
use Rattle.tables.specs.Call.{Call}
use Rattle.tables.specs.Entry.{ByLength, NumbersDue}
use Rattle.tables.specs.Sizes.{numbers_wrong}
use Rattle.tables.proofs.Asking.{numbers_long}
use Rattle.tables.proofs.Calls.{call_does, stops, enters}
use Rattle.engine.specs.Cost.{costs_of}
use Rattle.sentences.specs.Query.{lends, sentence_due, Says, Sentenced}
use Rattle.sentences.specs.Working.{Workable, Worked, Finished}

module _ (g : Flat) (rule : ℕ) (cost lengths : List ℕ) (o p : Outcome (Unit {0})) (is : NumbersDue g (length cost) o) (b : Bool) (eb : ByLength (numbers_wrong g.rules) (length lengths) b) (p7 : p ≡ or_due o b 7) (d : Outcome (Unit {0})) (d9 : d ≡ or_due p (leb g.rules rule) 9) where
  abbrev wrong : Bool
  wrong = numbers_wrong g.rules cost || numbers_wrong g.rules lengths

  due : (out : List ℕ) → d ≡ sentence_due g rule (lends cost lengths out)
  due out = also g ((wrong, 7) ∷ []) p d (leb g.rules rule) 9 (
      also g ((numbers_wrong g.rules cost, 7) ∷ []) o p (numbers_wrong g.rules lengths) 7 (is cost refl) (p7 ∙ ap (λ z. or_due o z 7) (eb lengths refl))
      ∙ ap (λ z. unless_due g z) (unless_or (numbers_wrong g.rules cost) (numbers_wrong g.rules lengths) 7 (answers tt))
      ) d9

  pub ask_refused : (out : List ℕ) (n : ℕ) → d ≡ refused n → Call (sentence_due g rule (lends cost lengths out)) (Sentenced g rule out) (lends cost lengths out) (refused n) (lends cost lengths out)
  ask_refused out n e = stops d n e (due out)

  module _ (e : d ≡ answers tt) where
    known : WellFormed g × NoneOf ((wrong, 7) ∷ (leb g.rules rule, 9) ∷ [])
    known = none_due g ((wrong, 7) ∷ (leb g.rules rule, 9) ∷ []) (enters d e (due []))

    pub ask_work : (choice : List ℕ) → choice ≡ replicate 512 4096 → Workable g cost choice lengths
    ask_work choice h =
        let s = or_none (numbers_wrong g.rules cost) (numbers_wrong g.rules lengths) known.1.0 in
        record { well = known.0; cost_long = numbers_long g.rules cost s.0; none = h; lengths_long = numbers_long g.rules lengths s.1 }

    module _ (r : ℕ) (er : r ≡ rule) (cost' choice' lengths' : List ℕ) (w : Worked g cost' choice' lengths') where
      pub ask_finished : Finished g r cost' choice' lengths'
      ask_finished = record { well = known.0; worked = w; is_rule = omega (arith, leb-false g.rules rule known.1.1.0) }

      pub ask_says : (out : List ℕ) (said : Outcome ℕ) (out' : List ℕ) → Says g (costs_of cost') r out said out' → Call (sentence_due g rule (lends cost lengths out)) (Sentenced g rule out) (lends cost lengths out) said (lends cost' lengths' out')
      ask_says out said out' s = call_does said (lends cost' lengths' out') (enters d e (due out)) (record { cost = w.prices; lengths = w.counts; says = rw er at s })
