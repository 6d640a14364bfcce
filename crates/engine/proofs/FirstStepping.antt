-- One production's step: what it asks of the walk, and what it leaves.
use mathlib.Core.Bool.{and-true, Bool, true, false, not, ◌&&◌, ◌||◌, or-false, and-false}
use mathlib.Core.List.{List}
use mathlib.Core.Logic.{inl, inr}
use mathlib.Core.Path.{◌≡◌, sym, ap, ap₂, ◌∙◌, subst}
use Prim.Native.Nat.{ℕ, ◌+◌, ◌≤◌, ◌<◌}
use native.Mathlib.Omega.{arith}
use lib.Dec.{eqb}
use lib.ListN.{length}
use Rattle.theory.specs.Visits.{Marks, nullable, first_visit}
use Rattle.theory.proofs.Bools.{or_split, or_none}
use Rattle.grammar.specs.Flat.{Flat, flat, at, ProdAt, form, denoted}
use Rattle.grammar.proofs.Forms.{prod_in, placed}
use Rattle.rows.specs.Marks.{place, mark, marked, Raised}
use Rattle.rows.specs.Tables.{Became, RowBecame}
use Rattle.rows.proofs.Marks.{row_in}
use Rattle.rows.proofs.Raise.{fresh_not, raised_mark}
use Rattle.rows.proofs.Row.{row_as, row_self, row_raised}
use Rattle.rows.proofs.Tables.{raised_became}
use Rattle.tables.specs.Call.{Stepped}
use Rattle.tables.specs.Sizes.{words}
use Rattle.engine.specs.First.{Lent, lent, marks_of, Walkable, Walks, Ready, FirstBecame}

-- what production p's step asks of what it calls
module _ (rules : ℕ) (owners starts symbols costs : List ℕ) (p : ℕ) (l : Lent) (ok : Ready (flat rules owners starts symbols costs) p l) where
  pub in_lists : (p < length owners) × (p + 1 < length starts)
  in_lists = prod_in _ ok.well p ok.is_prod

  module _ (n o a e : ℕ) (en : n ≡ rules) (h : ProdAt owners starts p o a e) where
    pub walkable : Walkable n (length costs) symbols a e o l
    walkable =
        let q = placed _ ok.well p ok.is_prod o a e h in
        record {
          few_rules = omega (arith, en, ok.well.sizes.rules_high);
          few_tokens = ok.well.sizes.tokens_high;
          rise = q.rise;
          fits = q.fits;
          owner = rw en q.owner;
          symbol = rw en ok.well.symbols;
          held = rw en ok.held;
        }

    pub few : n ≤ 512
    few = walkable.few_rules

    pub empty_place : (rd : ℕ) → rd ≡ words n → place rd 0 o < length l.empty
    empty_place rd er = rw er (row_in 1 n (words n) l.empty 0 o (omega arith) walkable.held.empty.len (omega arith) walkable.owner)

module _ (g : Flat) (p : ℕ) (l : Lent) (ok : Ready g p l) (a e o : ℕ) (h : ProdAt g.owners g.starts p o a e) (new past : Bool) (to : List ℕ)
    (w : Walks g.rules (length g.costs) g.symbols a e o l l.first new past to) where
  abbrev m : Marks
  m = marks_of g.rules (length g.costs) l

  first_is : Became g.rules (length g.costs) (words (length g.costs)) l.first to (first_visit (denoted g) p m).first
  unfolding marks_of form
  first_is = rw (h.from, h.to, h.owner) at (raised_became g.rules (length g.costs) (words (length g.costs)) l.first to o _ new (omega arith) w.raised ok.held.first)

  null : nullable m.empty ((denoted g).body p) ≡ past
  unfolding form
  null = sym (w.passed ∙ rw (h.from, h.to))

  -- EMPTY after the visit, where f is what it adds
  empty_after : (f : ℕ → Bool) → ((r : ℕ) → f r ≡ eqb r (at g.owners p) && past) → (r : ℕ) → (m.empty r || f r) ≡ (first_visit (denoted g) p m).empty r
  empty_after f i r = rw (i r, null)

  -- it did not pass the end: EMPTY is as it was
  stays : past ≡ false → RowBecame g.rules (words g.rules) l.empty l.empty (first_visit (denoted g) p m).empty
  unfolding marks_of
  stays k = row_as g.rules (words g.rules) l.empty l.empty _ _
      (λ r lr. sym (or-false (m.empty r)) ∙ empty_after (λ r. false) (λ r. sym (rw k (and-false (eqb r (at g.owners p))))) r)
      (row_self g.rules (words g.rules) l.empty ok.held.empty)

  pub step_stay : past ≡ false → Stepped (FirstBecame g p l) l new (lent to l.empty)
  step_stay k = record {
    became = record { first = first_is; empty = stays k };
    told = λ t q. fresh_not (w.raised.told t) (ap (λ z. z.first) q);
    still = λ t. ap (λ z. lent z l.empty) (w.raised.still t);
  }

  -- it passed the end: the owner is marked EMPTY
  module _ (k : past ≡ true) (rd : ℕ) (got : Bool) (empty : List ℕ) (er : rd ≡ words g.rules) (eg : got ≡ not (mark rd l.empty 0 o)) (ee' : empty ≡ marked rd l.empty 0 o) where
    owner : o < g.rules
    owner = (placed g ok.well p ok.is_prod o a e h).owner

    raised : Raised g.rules (words g.rules) l.empty empty 0 (λ r. eqb r o) got
    raised = rw (eg, ee', er) (raised_mark g.rules (words g.rules) l.empty 0 o (omega arith) ok.held.empty.small
        (row_in 1 g.rules (words g.rules) l.empty 0 o (omega arith) ok.held.empty.len (omega arith) owner) owner)

    marks_it : RowBecame g.rules (words g.rules) l.empty empty (first_visit (denoted g) p m).empty
    unfolding marks_of
    marks_it = row_as g.rules (words g.rules) l.empty empty _ _
        (λ r lr. empty_after (λ r. eqb r o) (λ r. rw (h.owner, k) (sym (and-true (eqb r (at g.owners p))))) r)
        (row_raised g.rules (words g.rules) l.empty empty (λ r. eqb r o) got (omega arith) raised ok.held.empty)

    pub step_past : Stepped (FirstBecame g p l) l (new || got) (lent to empty)
    step_past = record {
      became = record { first = first_is; empty = marks_it };
      told = λ t q. elim (or_split new got t) [ inl t ↦ fresh_not (w.raised.told t) (ap (λ z. z.first) q) | inr t ↦ fresh_not (raised.told t) (ap (λ z. z.empty) q) ];
      still = λ t. let s = or_none new got t in ap₂ lent (w.raised.still s.0) (raised.still s.1);
    }

-- the same where the code has the number of rules as n
module _ (g : Flat) (p : ℕ) (l : Lent) (ok : Ready g p l) (n a e o : ℕ) (en : n ≡ g.rules) (h : ProdAt g.owners g.starts p o a e) (new past : Bool) (to : List ℕ)
    (w : Walks n (length g.costs) g.symbols a e o l l.first new past to) where
  walked : Walks g.rules (length g.costs) g.symbols a e o l l.first new past to
  walked = subst (λ z. Walks z (length g.costs) g.symbols a e o l l.first new past to) en w

  pub steps_stay : past ≡ false → Stepped (FirstBecame g p l) l new (lent to l.empty)
  steps_stay k = step_stay g p l ok a e o h new past to walked k

  pub steps_past : past ≡ true → (rd : ℕ) (got : Bool) (empty : List ℕ) → rd ≡ words n → got ≡ not (mark rd l.empty 0 o) → empty ≡ marked rd l.empty 0 o → Stepped (FirstBecame g p l) l (new || got) (lent to empty)
  steps_past k rd got empty er eg em = step_past g p l ok a e o h new past to walked k rd got empty (er ∙ ap words en) eg em
