-- What each call owes, from what the call below promises for the house grammar.
use mathlib.Core.Bool.{Bool}
use Rattle.grammar.specs.declared.refusal.Refusal.{Refusal}
use Rattle.std.specs.Prelude.{Result}
use Rattle.grammar.specs.Lent.{outcome_of}
use mathlib.Core.List.{List}
use mathlib.Core.Logic.{inr}
use mathlib.Core.Path.{◌≡◌, refl, ◌∙◌, ap, subst}
use Rattle.grammar.specs.Flat.{Flat}
use Prim.Native.Nat.{ℕ}
use native.Mathlib.Omega.{arith}
use lib.Dec.{leb}
use lib.ListN.{length}
use borrow.Author.Tests.{leb-false}
use Rattle.grammar.specs.Outcome.{Outcome, answers}
use Rattle.grammar.specs.Production.{check_of}
use Rattle.grammar.specs.Refusals.{unless_due}
use Rattle.tables.specs.Call.{Call}
use Rattle.tables.specs.Queries.{is_set_of, is_rule_set_of}
use Rattle.tables.specs.Sizes.{numbers_wrong}
use Rattle.tables.proofs.AnyOrder.{unless_not, goes}
use Rattle.firsts.specs.Calls.{Fill}
use Rattle.costs.specs.Calls.{Fill as FillBelow}
use Rattle.engine.specs.Cost.{costs_of}
use Rattle.costs.specs.Query.{MinSentenceCost}
use Rattle.sentences.specs.Query.{MinSentence}
use Rattle.house.specs.Table.{house, cheapest_row}
use Rattle.house.specs.Calls.{FillFirst, is_first_of, is_empty_of, FillCost, MinCost, CheapestRow}
use Rattle.house.proofs.Formed.{none_due, formed}
use Rattle.house.proofs.Cheapest.{priced, row_is}

-- none of 1 to 6 is due, and what is done is said in other words
call_with : {A M : Type 0} {Done Done' : Outcome A → M → Type 0} {before : M} {said : Outcome A} {after : M} (due : Outcome (Unit {0}))
    → Call (unless_due house due) Done before said after → (due ≡ answers tt → Done said after → Done' said after) → Call due Done' before said after
call_with due x f = record {
  refuses = λ n e. x.refuses n (goes house formed due ∙ e);
  keeps = λ n e. x.keeps n (goes house formed due ∙ e);
  does = λ e. f e (x.does (goes house formed due ∙ e));
}

pub check_done : (g : Flat) → g ≡ house → (r : Outcome (Unit {0})) → r ≡ check_of g → r ≡ answers tt
check_done g q r e = e ∙ ap check_of q ∙ none_due

pub first_done : (g : Flat) → g ≡ house → (first empty : List ℕ) (r : Result (Unit {0}) Refusal) (first' empty' : List ℕ) → Fill g first empty r first' empty' → FillFirst first empty r first' empty'
first_done g q first empty r first' empty' x = call_with _ (subst (λ h. Fill h first empty r first' empty') q x) (λ e d. d)

pub first_asked : (g : Flat) → g ≡ house → (first : List ℕ) (rule token : ℕ) (r : Result Bool Refusal) → outcome_of r ≡ is_set_of g first rule token → outcome_of r ≡ is_first_of first rule token
first_asked g q first rule token r e = e ∙ ap (λ h. is_set_of h first rule token) q ∙ goes house formed _

pub empty_asked : (g : Flat) → g ≡ house → (empty : List ℕ) (rule : ℕ) (r : Result Bool Refusal) → outcome_of r ≡ is_rule_set_of g empty rule → outcome_of r ≡ is_empty_of empty rule
empty_asked g q empty rule r e = e ∙ ap (λ h. is_rule_set_of h empty rule) q ∙ goes house formed _

pub cost_done : (g : Flat) → g ≡ house → (cost : List ℕ) (r : Result (Unit {0}) Refusal) (cost' : List ℕ) → FillBelow g cost r cost' → FillCost cost r cost'
cost_done g q cost r cost' x = call_with _ (subst (λ h. FillBelow h cost r cost') q x) (λ e d. d)

-- a rule has a cost
pub cost_asked : (g : Flat) → g ≡ house → (r : ℕ) (cost : List ℕ) (a : Result ℕ Refusal) (cost' : List ℕ) → MinSentenceCost g r cost a cost' → MinCost r cost a cost'
cost_asked g q r cost a cost' x = call_with _ (subst (λ h. MinSentenceCost h r cost a cost') q x) (λ e d.
    let b = unless_not (numbers_wrong house.rules cost) 7 _ tt e in
    let l = leb-false house.rules r (unless_not (leb house.rules r) 9 (answers tt) tt b.1).0 in
    let p = priced (costs_of cost') d.cost.exact r l in
    record {
      cost = d.cost;
      least = costs_of cost' r;
      fits = p;
      is = d.cost.exact r;
      answer = d.is (costs_of cost' r) p (d.cost.exact r);
    })

-- the row is the start's sentence
row_length : length cheapest_row ≡ 46
unfolding cheapest_row
row_length = refl

pub row_written : (g : Flat) → g ≡ house → (cost lengths out : List ℕ) (a : Result ℕ Refusal) (cost' lengths' out' : List ℕ) → MinSentence g 0 cost lengths out a cost' lengths' out' → CheapestRow cost lengths out a cost' lengths' out'
row_written g q cost lengths out a cost' lengths' out' x = call_with _ (subst (λ h. MinSentence h 0 cost lengths out a cost' lengths' out') q x) (λ e d.
    let s = row_is (costs_of cost') d.cost.exact in
    record {
      cost = d.cost;
      lengths = d.lengths;
      short = λ l. d.says.long cheapest_row s (inr l);
      is = λ l. d.says.is cheapest_row s (omega (arith, row_length)) l;
    })
