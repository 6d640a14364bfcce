-- What the calls give: their answers, and 7, 9, 10 and 15 as each has them. So none gives 1 to 6 or 12 to 14.
use Rattle.grammar.specs.declared.refusal.Refusal.{Refusal}
use Rattle.std.specs.Prelude.{Result}
use Rattle.grammar.specs.Lent.{outcome_of}
use mathlib.Core.Bool.{Bool, true, false, ◌||◌}
use mathlib.Core.List.{List, [], ◌∷◌, Memᴰ}
use mathlib.Core.Path.{◌≡◌, refl, sym, subst}
use Prim.Native.Nat.{ℕ, ◌≤◌}
use native.Mathlib.Decide.{dec_lt}
use native.Mathlib.Omega.{arith}
use lib.Dec.{leb}
use lib.ListN.{length}
use Rattle.grammar.specs.Outcome.{Outcome, unless}
use Rattle.rows.specs.Marks.{mark}
use Rattle.tables.specs.Call.{Call}
use Rattle.tables.specs.Sizes.{words, table_wrong, row_wrong, numbers_wrong}
use Rattle.firsts.specs.Calls.{lent_wrong}
use Rattle.engine.specs.First.{lent}
use Rattle.sentences.specs.Query.{Lends}
use Rattle.house.specs.Table.{house, cheapest_row}
use Rattle.house.specs.Calls.{FillFirst, is_first_of, is_empty_of, FillCost, MinCost, RowWritten, CheapestRow, Gives, answer, refusal}

-- one test, and what comes after it
gives_more : {A : Type 0} {ns : List ℕ} (m : ℕ) {x : Outcome A} → Gives ns x → Gives (m ∷ ns) x
gives_more m (answer a) = answer a
gives_more m (refusal k) = refusal (Memᴰ.tail k)

test : {A : Type 0} {ns : List ℕ} (b : Bool) (n : ℕ) {x : Outcome A} → Gives ns x → Gives (n ∷ ns) (unless b n x)
test true n h = refusal (Memᴰ.head refl)
test false n h = gives_more n h

-- a call gives what is due, or what it does
call_gives : {A M : Type 0} {Done : Outcome A → M → Type 0} {before : M} {s : Outcome A} {after : M} {ns : List ℕ} {due : Outcome (Unit {0})} → Gives ns due → (Done s after → Gives ns s) → Call due Done before s after → Gives ns s
call_gives (answer tt) k x = k (x.does refl)
call_gives {ns = ns} (refusal {n} m) k x = subst (Gives ns) (sym (x.refuses n refl)) (refusal m)

pub fill_first_gives : (first empty : List ℕ) (r : Result (Unit {0}) Refusal) {f e : List ℕ} → FillFirst first empty r f e → Gives (7 ∷ []) (outcome_of r)
fill_first_gives first empty r x = call_gives (test (lent_wrong house (lent first empty)) 7 (answer tt)) (λ d. subst (Gives (7 ∷ [])) (sym d.done) (answer tt)) x

pub is_first_gives : (first : List ℕ) (rule token : ℕ) (r : Result Bool Refusal) → outcome_of r ≡ is_first_of first rule token → Gives (7 ∷ 9 ∷ 10 ∷ []) (outcome_of r)
is_first_gives first rule token r e = subst (Gives (7 ∷ 9 ∷ 10 ∷ [])) (sym e)
    (test (table_wrong house.rules (length house.costs) first) 7 (test (leb house.rules rule) 9 (test (leb (length house.costs) token) 10 (answer (mark (words (length house.costs)) first rule token)))))

pub is_empty_gives : (empty : List ℕ) (rule : ℕ) (r : Result Bool Refusal) → outcome_of r ≡ is_empty_of empty rule → Gives (7 ∷ 9 ∷ []) (outcome_of r)
is_empty_gives empty rule r e = subst (Gives (7 ∷ 9 ∷ [])) (sym e) (test (row_wrong house.rules empty) 7 (test (leb house.rules rule) 9 (answer (mark (words house.rules) empty 0 rule))))

pub fill_cost_gives : (cost : List ℕ) (r : Result (Unit {0}) Refusal) {c : List ℕ} → FillCost cost r c → Gives (7 ∷ []) (outcome_of r)
fill_cost_gives cost r x = call_gives (test (numbers_wrong house.rules cost) 7 (answer tt)) (λ d. subst (Gives (7 ∷ [])) (sym d.done) (answer tt)) x

pub min_cost_gives : (rule : ℕ) (cost : List ℕ) (r : Result ℕ Refusal) {c : List ℕ} → MinCost rule cost r c → Gives (7 ∷ 9 ∷ []) (outcome_of r)
min_cost_gives rule cost r x = call_gives (test (numbers_wrong house.rules cost) 7 (test (leb house.rules rule) 9 (answer tt))) (λ d. subst (Gives (7 ∷ 9 ∷ [])) (sym d.answer) (answer d.least)) x

-- the row's answer, or 15
row_gives : (out : List ℕ) (said : Outcome ℕ) (after : Lends) → RowWritten out said after → Gives (7 ∷ 15 ∷ []) said
row_gives out said after d = elim (dec_lt (length out) (length cheapest_row)) [
  | yes q ↦ subst (Gives (7 ∷ 15 ∷ [])) (sym (d.short q).number) (refusal (Memᴰ.tail (Memᴰ.head refl)))
  | no q ↦ let le : length cheapest_row ≤ length out = omega arith in subst (Gives (7 ∷ 15 ∷ [])) (sym (d.is le).number) (answer (length cheapest_row))
]

pub cheapest_row_gives : (cost lengths out : List ℕ) (r : Result ℕ Refusal) {c l o : List ℕ} → CheapestRow cost lengths out r c l o → Gives (7 ∷ 15 ∷ []) (outcome_of r)
cheapest_row_gives cost lengths out r x = call_gives {Done = RowWritten out} (test (numbers_wrong house.rules cost || numbers_wrong house.rules lengths) 7 (answer tt)) (row_gives out _ _) x
