-- Demand 3 on the lent words themselves, for calls of `visit` in any order with refused ones between; and demand 2 for what `fill` leaves.
use Rattle.grammar.specs.declared.refusal.Refusal.{Refusal}
use Rattle.std.specs.Prelude.{Result}
use mathlib.Core.Bool.{false}
use mathlib.Core.List.{List}
use mathlib.Core.Path.{◌≡◌, sym, ◌∙◌}
use Prim.Native.Nat.{ℕ, ◌*◌, ◌≤◌, ◌<◌}
use lib.Dec.{leb}
use lib.ListN.{length}
use borrow.Author.Tests.{leb-false, lt-leb}
use Rattle.theory.specs.Rounds.{AllRounds}
use Rattle.theory.specs.Tables.{FirstTrue}
use Rattle.theory.specs.Visits.{Marks, first_visit, first_cleared}
use Rattle.theory.proofs.First.{first_any_order, first_one}
use Rattle.grammar.specs.Flat.{Flat, denoted}
use Rattle.grammar.specs.Outcome.{answers}
use Rattle.grammar.specs.Well.{WellFormed, Built}
use Rattle.grammar.proofs.Denoted.{proper}
use Rattle.rows.proofs.Tables.{cleared_mark}
use Rattle.source.specs.Firsts.{Returns}
use Rattle.source.proofs.Firsts.{firsts_returns, firsts_exact}
use Rattle.tables.specs.Sizes.{words}
use Rattle.tables.specs.Trace.{ask, Trace, Rounded, AtRest}
use Rattle.tables.proofs.Asking.{table_right, row_right}
use Rattle.tables.proofs.AnyOrder.{unless_not, goes, Steady, visits_spare, visits_hold, rest_exact, rounds_still}
use Rattle.tables.proofs.Stepping.{steady}
use Rattle.engine.specs.First.{Lent, lent, Held, Spared, marks_of}
use Rattle.engine.proofs.FirstMoving.{stepping}
use Rattle.firsts.specs.Calls.{lent_wrong, fill_due, visit_due, zeros, first_visits, Defined, Fill}
use Rattle.firsts.proofs.Calling.{one_row, zeros_marks, zeros_held}
use Rattle.firsts.proofs.Determined.{defined_one}

module _ (g : Flat) (w : WellFormed g) where
  -- tables of their lengths are refused nothing but a number
  right : (l : Lent) → Held g.rules (length g.costs) l → lent_wrong g l ≡ false
  right l h = rw (table_right g.rules (length g.costs) l.first h.first.len, row_right g.rules l.empty (h.empty.len ∙ sym (one_row g.rules)))

  due_prod : (p : ℕ) (l : Lent) → visit_due g p l ≡ answers tt → p < length g.owners
  due_prod p l e =
      let a = unless_not (lent_wrong g l) 7 _ tt (sym (goes g w _) ∙ e) in
      leb-false (length g.owners) p (unless_not (leb (length g.owners) p) 11 (answers tt) tt a.1).0

  first_steady : Steady first_visits (ask g) (first_visit (denoted g)) (marks_of g.rules (length g.costs)) (Spared g.rules (length g.costs)) (length g.owners) (zeros g) first_cleared
  first_steady = steady (stepping g w) first_visits (ask g) (zeros g) first_cleared
      (λ p a b x v. v)
      (λ p a b x v. v)
      due_prod
      (λ p lt l h. goes g w _ ∙ rw (right l h, lt-leb (length g.owners) p lt))
      (zeros_held g)
      (zeros_marks g)

  module _ {ps : List ℕ} {l : Lent} (t : Trace first_visits (ask g) ps (zeros g) l) where
    -- at every moment each mark held is true by derivation
    pub visits_true : FirstTrue (denoted g) (marks_of g.rules (length g.costs) l)
    visits_true = visits_hold first_steady (first_any_order (denoted g) (proper g w)) t

    -- tables that no visit would change are exactly the definitions'
    pub rest_defined : AtRest first_visits (ask g) (length g.owners) l → Defined g l
    rest_defined h = record {
      held = (visits_spare first_steady t).held (zeros_held g);
      exact = rest_exact first_steady (first_any_order (denoted g) (proper g w)) t h;
      first_spare = λ r t₁ lr le lt. (visits_spare first_steady t).first r t₁ lr le lt ∙ cleared_mark (words (length g.costs)) (g.rules * words (length g.costs)) r t₁;
      empty_spare = λ r le lt. (visits_spare first_steady t).empty r le lt ∙ cleared_mark (words g.rules) (words g.rules) 0 r;
    }

  -- so all orders agree with each other, and with fill
  pub orders_agree : {ps qs : List ℕ} {a b : Lent} → Trace first_visits (ask g) ps (zeros g) a → AtRest first_visits (ask g) (length g.owners) a → Trace first_visits (ask g) qs (zeros g) b → AtRest first_visits (ask g) (length g.owners) b → a ≡ b
  orders_agree {a = a} {b = b} s h t k = defined_one g a b (rest_defined s h) (rest_defined t k)

  pub fill_agrees : {ps : List ℕ} {a : Lent} → Trace first_visits (ask g) ps (zeros g) a → AtRest first_visits (ask g) (length g.owners) a
      → (first empty f e : List ℕ) (r : Result (Unit {0}) Refusal) → fill_due g (lent first empty) ≡ answers tt → Fill g first empty r f e → lent f e ≡ a
  fill_agrees {a = a} s h first empty f e r d v = defined_one g (lent f e) a (v.does d).left (rest_defined s h)

  -- after R*T rounds in any order no visit changes the tables
  pub rounds_rest : (vs : List (List ℕ)) (l : Lent) → Rounded first_visits (ask g) vs (zeros g) l → AllRounds (length g.owners) vs → g.rules * length g.costs ≤ length vs
      → AtRest first_visits (ask g) (length g.owners) l
  rounds_rest = rounds_still first_steady (first_any_order (denoted g) (proper g w))

-- on every grammar that the crate can build
module _ (g : Flat) (b : Built g) where
  -- the source's `YaccFirsts::new` returns, and its FIRST and epsilon bits are those that fill leaves
  pub source_returns : (t : Marks) × Returns (denoted g) first_cleared t
  source_returns = firsts_returns (denoted g) (proper g b.well)

  pub source_equal : (l : Lent) → Defined g l → {t : Marks} → Returns (denoted g) first_cleared t → marks_of g.rules (length g.costs) l ≡ t
  source_equal l d r = first_one (denoted g) _ _ d.exact (firsts_exact (denoted g) (proper g b.well) r)

  -- the same of a call of fill, whatever was lent to it
  pub fill_source : (first empty f e : List ℕ) (q : Result (Unit {0}) Refusal) → fill_due g (lent first empty) ≡ answers tt → Fill g first empty q f e → {t : Marks} → Returns (denoted g) first_cleared t → marks_of g.rules (length g.costs) (lent f e) ≡ t
  fill_source first empty f e q due v r = source_equal (lent f e) (v.does due).left r
