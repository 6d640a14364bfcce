-- What each kind's step asks, and what it leaves.
use mathlib.Core.Bool.{Bool, true, false, not, cond, ◌&&◌, and-true, false≢true}
use mathlib.Core.List.{List}
use mathlib.Core.Path.{◌≡◌, refl, sym, ap, ◌∙◌, subst}
use Prim.Native.Nat.{ℕ, ◌+◌, ◌≤◌, ◌<◌, min}
use native.Mathlib.Omega.{arith}
use lib.Dec.{eqb, leb}
use lib.ListN.{length}
use borrow.Author.Tests.{ne_eqb}
use Rattle.theory.specs.Grammar.{Grammar}
use Rattle.theory.specs.Visits.{Costs, sum_cost, lower, cost_visit}
use Rattle.grammar.specs.Flat.{Flat, at, form, denoted, price}
use Rattle.grammar.specs.Well.{WellFormed}
use Rattle.grammar.proofs.Well.{laid_end}
use Rattle.tables.specs.Call.{Stepped}
use Rattle.engine.specs.First.{Lent, lent, Ready as FirstReady, FirstBecame, plain, Stretches}
use Rattle.engine.specs.Follow.{Reads, FollowBecame, StepReady}
use Rattle.engine.specs.Productive.{ProductiveBecame, RowReady}
use Rattle.engine.specs.Cost.{costs_of, CostBecame, Agrees, Adds, Calm as CostCalm, Lowerable, Lowers}
use Rattle.engine.specs.Kinds.{Kind, first, follow, productive, cost, Beside, kind_view, makes, Quiet, Calm, KindBecame, Ready, Steps}
use Rattle.engine.proofs.FirstMoving.{became_same}
use Rattle.engine.proofs.Instances.{stepping, calm_quiet}

-- a step of the table alone
besides : {Made : List ℕ → List ℕ → Type 0} (table row : List ℕ) (x : Bool) (t : List ℕ) → Stepped (Made table) table x t → Stepped (Beside Made (lent table row)) (lent table row) x (lent t row)
besides table row x t s = record {
  became = record { table = s.became; row = refl };
  told = λ e q. s.told e (ap (λ (z : Lent). z.first) q);
  still = λ e. ap (λ z. lent z row) (s.still e);
}

-- a step of a kind whose every change needs a further round
plainly : (k : Kind) (g : Flat) (again : Bool) (p : ℕ) (l : Lent) (read : List Bool) → ((q : ℕ) (m : Lent) → Quiet k g q m → Calm k g q read m) → Ready k g again p l read → (x : Bool) (to : Lent) → Stepped (KindBecame k g p l) l x to → Steps k g p l read x x to read
plainly k g again p l read into ok x to s = record {
  steps = s;
  long = refl;
  told = λ e. e;
  calm = λ e. into p to (ap (λ z. makes k g p (kind_view k g z)) (s.still e) ∙ sym ((stepping k g ok.well).shows p ok.is_prod l to s.became));
  stays = λ e q c. into q to (subst (λ z. Quiet k g q z) (sym (s.still e)) (calm_quiet k g q read l c));
}

-- a visit of COST raises no entry
lower_le : (n s : ℕ) → lower n s ≤ n
lower_le n s = go (leb s 65536)
  where
    go : (b : Bool) → cond b (min n s) n ≤ n
    go true = omega arith
    go false = omega arith

visit_le : (g : Grammar) (k : ℕ → ℕ) (p : ℕ) (c : Costs) (r : ℕ) → cost_visit g k p c r ≤ c r
visit_le g k p c r = go (eqb r (g.owner p))
  where
    go : (b : Bool) → cond b (lower (c r) (sum_cost k c (g.body p))) (c r) ≤ c r
    go true = lower_le (c r) (sum_cost k c (g.body p))
    go false = omega arith

-- what is calm stays so where entries fall that were not read
calm_kept : (g : Flat) (p : ℕ) (read read' : List Bool) (now next : Costs) → Adds read read' → ((r : ℕ) → next r ≤ now r) → Agrees read' next now → CostCalm g p read now → CostCalm g p read' next
calm_kept g p read read' now next a le ag c d ld gd = c d (λ r. omega (arith, ld r, le r)) (λ r b. gd r (a.keeps r b) ∙ ag r (a.keeps r b))

-- the test whether a production is plain
pub plain_in : (g : Flat) (p : ℕ) → WellFormed g → p < length g.owners → Stretches g.starts g.symbols p
plain_in g p w lt = record { starts_in = omega (arith, w.laid.long); rise = w.laid.rise p lt; fits = laid_end w.laid lt }

-- no change is early
module _ (k : Kind) (g : Flat) (again : Bool) (p : ℕ) (l : Lent) (read : List Bool) (ok : Ready k g again p l read) where
  plain_made : ((q : ℕ) (m : Lent) → Quiet k g q m → Calm k g q read m) → (z : Bool) (to : Lent) → Stepped (KindBecame k g p l) l z to
      → (x y : Bool) → (x ≡ z) × (y ≡ false) → Steps k g p l read x (x && not y) to read
  plain_made into z to s x y e = rw (e.0, e.1, and-true z) (plainly k g again p l read into ok z to s)

module _ (g : Flat) (again : Bool) (p : ℕ) (table row : List ℕ) (read : List Bool) where
  module _ (ok : Ready first g again p (lent table row) read) where
    -- a plain one is passed over
    pub made_plain : again ≡ true → (b : Bool) → b ≡ plain (form g.symbols (at g.starts p) (at g.starts (p + 1))) → b ≡ true → (x y : Bool) → (x ≡ false) × (y ≡ false) → Steps first g p (lent table row) read x (x && not y) (lent table row) read
    unfolding form
    made_plain t b eb k = plain_made first g again p (lent table row) read ok (λ q m c. c) false (lent table row)
        (record { became = became_same g ok.well p ok.is_prod (lent table row) ok.held (ok.due t (sym eb ∙ k)); told = λ z. absurd (false≢true z); still = λ z. refl })

    pub ready_first : FirstReady g p (lent table row)
    ready_first = record { well = ok.well; is_prod = ok.is_prod; held = ok.held }

    pub made_first : (z : Bool) (t o : List ℕ) → Stepped (FirstBecame g p (lent table row)) (lent table row) z (lent t o) → (x y : Bool) → (x ≡ z) × (y ≡ false) → Steps first g p (lent table row) read x (x && not y) (lent t o) read
    made_first z t o s = plain_made first g again p (lent table row) read ok (λ q m c. c) z (lent t o) s

  module _ (from : Reads) (ok : Ready (follow from) g again p (lent table row) read) where
    pub ready_follow : StepReady g p again from table
    ready_follow = record {
      ready = record { first = record { well = ok.well; is_prod = ok.is_prod; held = ok.reads.firsts }; reached = ok.reads.reached; follows = ok.held };
      feeds = ok.due;
    }

    pub made_follow : (z : Bool) (t : List ℕ) → Stepped (FollowBecame g from p table) table z t → (x y : Bool) → (x ≡ z) × (y ≡ false) → Steps (follow from) g p (lent table row) read x (x && not y) (lent t row) read
    made_follow z t s = plain_made (follow from) g again p (lent table row) read ok (λ q m c. c) z (lent t row) (besides {Made = FollowBecame g from p} table row z t s)

  module _ (ok : Ready productive g again p (lent table row) read) where
    pub ready_row : RowReady g p table
    ready_row = record { well = ok.well; is_prod = ok.is_prod; held = ok.held }

    pub made_row : (z : Bool) (t : List ℕ) → Stepped (ProductiveBecame g p table) table z t → (x y : Bool) → (x ≡ z) × (y ≡ false) → Steps productive g p (lent table row) read x (x && not y) (lent t row) read
    made_row z t s = plain_made productive g again p (lent table row) read ok (λ q m c. c) z (lent t row) (besides {Made = ProductiveBecame g p} table row z t s)

  module _ (ok : Ready cost g again p (lent table row) read) where
    pub ready_cost : Lowerable g p table read
    ready_cost = record { ready = record { well = ok.well; is_prod = ok.is_prod; long = ok.held }; long = ok.long }

    pub made_cost : (x y : Bool) (t : List ℕ) (read' : List Bool) → Lowers g p table read x y t read' → Steps cost g p (lent table row) read x y (lent t row) read'
    made_cost x y t read' s = record {
      steps = besides {Made = CostBecame g p} table row x t s.steps;
      long = s.adds.long;
      told = s.told;
      calm = s.calm;
      stays = λ e q c. calm_kept g q read read' (costs_of table) (costs_of t) s.adds (λ r. omega (arith, s.steps.became.entries r, visit_le (denoted g) (price g) p (costs_of table) r)) (s.kept e) c;
    }
