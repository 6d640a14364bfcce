-- Each call's promise determines its answer and every lent word: any two results that it allows are equal.
use mathlib.Core.Bool.{Bool}
use Rattle.grammar.specs.declared.refusal.Refusal.{Refusal}
use Rattle.std.specs.Prelude.{Result}
use Rattle.grammar.specs.Lent.{outcome_of}
use mathlib.Core.List.{List}
use mathlib.Core.Path.{◌≡◌, sym, ◌∙◌, ap, subst}
use Prim.Native.Nat.{ℕ, ◌≤◌}
use native.Mathlib.Decide.{dec_lt}
use native.Mathlib.Omega.{arith}
use lib.ListN.{length}
use Rattle.theory.proofs.Cost.{cost_one}
use Rattle.grammar.specs.Outcome.{Outcome, answers}
use Rattle.grammar.proofs.Determined.{outcome_one}
use Rattle.tables.proofs.Calls.{Both, Alike, call_one, leaves_one}
use Rattle.engine.specs.First.{lent}
use Rattle.engine.specs.Cost.{costs_of}
use Rattle.firsts.proofs.Determined.{defined_one}
use Rattle.costs.proofs.Determined.{cost_defined_one}
use Rattle.sentences.specs.Measuring.{LengthsDefined}
use Rattle.sentences.specs.Query.{Lends, lends}
use Rattle.sentences.proofs.Determined.{lengths_defined_one}
use Rattle.house.specs.Table.{house, cheapest_row}
use Rattle.house.specs.Calls.{first_due, FillFirst, is_first_of, is_empty_of, FillCost, cost_due, Prices, MinCost, row_due, RowWritten, CheapestRow}

pub check_one : {a b : Result (Unit {0}) Refusal} → outcome_of a ≡ answers tt → outcome_of b ≡ answers tt → a ≡ b
check_one e h = outcome_one (e ∙ sym h)

pub fill_first_one : (first empty : List ℕ) {r s : Result (Unit {0}) Refusal} {f e f' e' : List ℕ} → FillFirst first empty r f e → FillFirst first empty s f' e' → Alike r s (lent f e) (lent f' e')
fill_first_one first empty {r} {s} x y = let o = call_one (leaves_one (defined_one house)) (first_due (lent first empty)) x y in record { answer = outcome_one o.said; left = o.left }

pub is_first_one : (first : List ℕ) (rule token : ℕ) {a b : Result Bool Refusal} → outcome_of a ≡ is_first_of first rule token → outcome_of b ≡ is_first_of first rule token → a ≡ b
is_first_one first rule token {a} {b} x y = outcome_one (x ∙ sym y)

pub is_empty_one : (empty : List ℕ) (rule : ℕ) {a b : Result Bool Refusal} → outcome_of a ≡ is_empty_of empty rule → outcome_of b ≡ is_empty_of empty rule → a ≡ b
is_empty_one empty rule {a} {b} x y = outcome_one (x ∙ sym y)

pub fill_cost_one : (cost : List ℕ) {r s : Result (Unit {0}) Refusal} {a b : List ℕ} → FillCost cost r a → FillCost cost s b → Alike r s a b
fill_cost_one cost {r} {s} x y = let o = call_one (leaves_one (cost_defined_one house)) _ x y in record { answer = outcome_one o.said; left = o.left }

prices_one : (r : ℕ) (s t : Outcome ℕ) (a b : List ℕ) → Prices r s a → Prices r t b → Both s t a b
prices_one r s t a b x y = record { said = x.answer ∙ ap answers (cost_one x.is y.is) ∙ sym y.answer; left = cost_defined_one house a b x.cost y.cost }

pub min_cost_one : (rule : ℕ) (cost : List ℕ) {r s : Result ℕ Refusal} {a b : List ℕ} → MinCost rule cost r a → MinCost rule cost s b → Alike r s a b
min_cost_one rule cost {r} {s} x y = let o = call_one (prices_one rule) (cost_due rule cost) x y in record { answer = outcome_one o.said; left = o.left }

written_one : (out : List ℕ) (s t : Outcome ℕ) (a b : Lends) → RowWritten out s a → RowWritten out t b → Both s t a b
written_one out s t a b x y =
    let c = cost_defined_one house a.cost b.cost x.cost y.cost in
    let l = lengths_defined_one house a.lengths b.lengths x.lengths (subst (λ u. LengthsDefined house (costs_of u) b.lengths) (sym c) y.lengths) in
    let tables : (o : List ℕ) → lends a.cost a.lengths o ≡ lends b.cost b.lengths o = λ o. ap (λ u. lends u a.lengths o) c ∙ ap (λ u. lends b.cost u o) l in
    elim (dec_lt (length out) (length cheapest_row)) [
      | yes q ↦ record { said = (x.short q).number ∙ sym (y.short q).number; left = tables a.out ∙ ap (lends b.cost b.lengths) ((x.short q).kept ∙ sym (y.short q).kept) }
      | no q ↦
          let le : length cheapest_row ≤ length out = omega arith in
          record { said = (x.is le).number ∙ sym (y.is le).number; left = tables a.out ∙ ap (lends b.cost b.lengths) ((x.is le).tokens ∙ sym (y.is le).tokens) }
    ]

pub cheapest_row_one : (cost lengths out : List ℕ) {r s : Result ℕ Refusal} {c l o c' l' o' : List ℕ} → CheapestRow cost lengths out r c l o → CheapestRow cost lengths out s c' l' o' → Alike r s (lends c l o) (lends c' l' o')
cheapest_row_one cost lengths out {r} {s} x y = let o = call_one (written_one out) (row_due (lends cost lengths out)) x y in record { answer = outcome_one o.said; left = o.left }
