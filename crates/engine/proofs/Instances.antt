-- Each kind's instance: all that the loop needs to know of it.
use mathlib.Core.Bool.{Bool}
use mathlib.Core.List.{List, [], ◌∷◌, Memᴰ}
use mathlib.Core.Logic.{inl, inr}
use mathlib.Core.Path.{◌≡◌, refl, sym, ap, ap₂, ◌∙◌, subst}
use Prim.Native.Nat.{ℕ, ◌-◌, ◌*◌}
use native.Mathlib.Omega.{arith}
use lib.ListN.{length}
use Rattle.theory.specs.Fills.{Settles}
use Rattle.theory.specs.Rounds.{run}
use Rattle.theory.proofs.Count.{marks, sum, column, climb}
use Rattle.theory.proofs.CostRounds.{cost_climb}
use Rattle.theory.proofs.Fills.{Filling}
use Rattle.theory.proofs.First.{both, first_marked}
use Rattle.theory.proofs.Follow.{follow_grows, follow_visit_under}
use Rattle.theory.proofs.Productive.{productive_marked}
use Rattle.grammar.specs.Flat.{Flat, denoted}
use Rattle.grammar.specs.Well.{WellFormed}
use Rattle.tables.proofs.Stepping.{Stepping}
use Rattle.engine.specs.First.{Lent, lent, marks_of}
use Rattle.engine.specs.Follow.{table_of, reached_of}
use Rattle.engine.specs.Productive.{row_of}
use Rattle.engine.specs.Cost.{costs_of}
use Rattle.engine.specs.Kinds.{Kind, first, follow, productive, cost, Beside, Seen, kind_view, makes, Keeps, KindHeld, Fit, Served, Quiet, Calm, KindBecame, Begun}
use Rattle.engine.proofs.FirstMoving.{begun_inv as first_inv, inv_no_eof, first_long, empty_long, stepping as first_stepping}
use Rattle.engine.proofs.FollowMoving.{words_in, long as follow_long, stepping as follow_stepping}
use Rattle.engine.proofs.CostMoving.{row_column, row_long, row_stepping, costs_fit, cost_stepping}
use Rattle.engine.proofs.Plain.{visit_quiet, quiet_under, visit_under}
use Rattle.engine.proofs.Feeding.{fed_under, visit_feeds}

-- a table alone, seen as one with a row beside it
module _ {S : Type 0} {step : ℕ → S → S} {see : List ℕ → S} {Kept : List ℕ → List ℕ → Type 0} {P : ℕ} where
  abbrev beside_filling : Filling step see Kept P → Filling step (λ (l : Lent). see l.first) (Beside Kept) P
  beside_filling f = record {
    Inv = f.Inv;
    top = f.top;
    climb = f.climb;
    same = λ a. record { table = f.same a.first; row = refl };
    then = λ a b d x y. record { table = f.then a.first b.first d.first x.table y.table; row = y.row ∙ x.row };
  }

  abbrev beside : {Is : List ℕ → Type 0} {Made : ℕ → List ℕ → List ℕ → Type 0} → Stepping step see Kept P Is Made
      → Stepping step (λ (l : Lent). see l.first) (Beside Kept) P (λ l. Is l.first) (λ p. Beside (Made p))
  beside k = record {
    filling = beside_filling k.filling;
    held = λ a b s. k.held a.first b.first s.table;
    shows = λ p lt a b x. k.shows p lt a.first b.first x.table;
    spares = λ p lt a b x. record { table = k.spares p lt a.first b.first x.table; row = x.row };
    stays = λ p lt a h e. record { table = k.stays p lt a.first h e; row = refl };
    unique = λ p a b d x y. ap₂ lent (k.unique p a.first b.first d.first x.table y.table) (x.row ∙ sym y.row);
  }

  -- and back
  pub alone : {a b : Lent} → Settles step (λ (l : Lent). see l.first) (Beside Kept) P a b → Settles step see Kept P a.first b.first
  alone s = record { visits = s.visits; valid = s.valid; ran = s.ran; keeps = s.keeps.table; rest = s.rest }

abbrev pub stepping : (k : Kind) (g : Flat) → WellFormed g → Stepping (makes k g) (kind_view k g) (Keeps k g) (length g.owners) (KindHeld k g) (KindBecame k g)
stepping first g w = first_stepping g w
stepping (follow read) g w = beside (follow_stepping g w read)
stepping productive g w = beside (row_stepping g w)
stepping cost g w = beside (cost_stepping g w)

pub begun_inv : (k : Kind) (g : Flat) (l : Lent) (b : Begun k g l) → (stepping k g b.well).filling.Inv (kind_view k g l)
begun_inv first g l b = first_inv g b.well l b.fit
begun_inv (follow read) g l b = words_in g b.well read l.first
begun_inv productive g l b = row_column g.rules l.first
begun_inv cost g l b = costs_fit g l.first b.held b.fit

pub inv_fit : (k : Kind) (g : Flat) (w : WellFormed g) (l : Lent) → (stepping k g w).filling.Inv (kind_view k g l) → Fit k g l
inv_fit first g w l i = inv_no_eof g w l i
inv_fit (follow read) g w l i = tt
inv_fit productive g w l i = tt
inv_fit cost g w l i = i.cap

pub table_long : (k : Kind) (g : Flat) (a b : Lent) → KindHeld k g a → Keeps k g a b → length b.first ≡ length a.first
table_long first g a b h s = first_long h s
table_long (follow read) g a b h s = follow_long h s.table
table_long productive g a b h s = row_long h s.table
table_long cost g a b h s = s.table

pub row_same : (k : Kind) (g : Flat) (a b : Lent) → KindHeld k g a → Keeps k g a b → length b.empty ≡ length a.empty
row_same first g a b h s = empty_long h s
row_same (follow read) g a b h s = ap length s.row
row_same productive g a b h s = ap length s.row
row_same cost g a b h s = ap length s.row

-- the changes that can still be made
abbrev pub room_of : Kind → (R T : ℕ) → Lent → ℕ
room_of first R T l = R * T - marks R T (both (marks_of R T l))
room_of (follow read) R T l = R * T - marks R T (table_of R T l.first)
room_of productive R T l = R * 1 - marks R 1 (column (row_of R l.first))
room_of cost R T l = R * 65537 - sum R (λ r. 65537 - costs_of l.first r)

pub room_is : (k : Kind) (g : Flat) (w : WellFormed g) (l : Lent) → (stepping k g w).filling.top - (stepping k g w).filling.climb.size (kind_view k g l) ≡ room_of k g.rules (length g.costs) l
unfolding climb first_marked follow_grows productive_marked cost_climb
room_is first g w l = refl
room_is (follow read) g w l = refl
room_is productive g w l = refl
room_is cost g w l = refl

-- what holds after a production's visit, and stays so
due_made : (k : Kind) (g : Flat) (p : ℕ) (s : Seen k) → Served k g p (makes k g p s)
due_made first g p s = λ e. visit_quiet (denoted g) p e s
due_made (follow read) g p s = visit_feeds (denoted g) (marks_of g.rules (length g.costs) read.firsts) (reached_of g.rules read.reached) p s
due_made productive g p s = tt
due_made cost g p s = tt

due_kept : (k : Kind) (g : Flat) (p q : ℕ) (s : Seen k) → Served k g p s → Served k g p (makes k g q s)
due_kept first g p q s d = λ e. quiet_under (denoted g) p e s _ (visit_under (denoted g) q s) (d e)
due_kept (follow read) g p q s d = λ c.
    fed_under (marks_of g.rules (length g.costs) read.firsts) ((denoted g).body p) s _
    (follow_visit_under (denoted g) (marks_of g.rules (length g.costs) read.firsts) (reached_of g.rules read.reached) q s) (d c)
due_kept productive g p q s d = tt
due_kept cost g p q s d = tt

pub due_run : (k : Kind) (g : Flat) (p : ℕ) (v : List ℕ) (s : Seen k) → Served k g p s → Served k g p (run (makes k g) v s)
due_run k g p [] s d = d
due_run k g p (q ∷ v) s d = due_run k g p v (makes k g q s) (due_kept k g p q s d)

pub due_among : (k : Kind) (g : Flat) (p : ℕ) (v : List ℕ) (s : Seen k) → Memᴰ p v → Served k g p (run (makes k g) v s)
due_among k g p [] s m = absurd (mathlib.Core.List.Memᴰ.not-nil m)
due_among k g p (q ∷ v) s m =
    let ih : Memᴰ p v → Served k g p (run (makes k g) v (makes k g q s)) = λ n. due_among k g p v (makes k g q s) n in
    elim (mathlib.Core.List.Memᴰ.cases_cons m) [ inl e ↦ due_run k g p v (makes k g q s) (subst (λ z. Served k g p (makes k g z s)) e (due_made k g p s)) | inr n ↦ ih n ]

-- what is calm is quiet
pub calm_quiet : (k : Kind) (g : Flat) (p : ℕ) (read : List Bool) (l : Lent) → Calm k g p read l → Quiet k g p l
calm_quiet first g p read l c = c
calm_quiet (follow from) g p read l c = c
calm_quiet productive g p read l c = c
calm_quiet cost g p read l c = c (costs_of l.first) (λ r. omega arith) (λ r e. refl)
