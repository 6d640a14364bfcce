-- A round of the dearest costs, step by step, and rounds until one changes nothing.
use mathlib.Core.Bool.{Bool, true, false, ◌||◌}
use mathlib.Core.List.{List}
use mathlib.Core.Path.{◌≡◌, refl, sym, ◌∙◌, ap, subst, fun_ext}
use Prim.Native.Nat.{ℕ, ◌+◌, ◌*◌, ◌≤◌, ◌<◌, min}
use native.Mathlib.Omega.{arith}
use lib.Dec.{leb}
use lib.ListN.{length, length-map, replicate, length-replicate, get_or-eq_default}
use lib.Seq.{ext_get_or, slice, length-slice}
use Rattle.theory.specs.DearestVisits.{no_bound, dearest_visit, dearest_cleared}
use Rattle.theory.specs.Fills.{turn, turns, Moves}
use Rattle.theory.specs.Rounds.{run}
use Rattle.theory.proofs.Dearest.{Limits}
use Rattle.theory.proofs.DearestRounds.{Risen, dearest_climb}
use Rattle.theory.proofs.DearestStages.{Stage, stage_left, stage_start, stage_on, stage_less, stage_end}
use Rattle.theory.proofs.Fills.{Filling, turned, turns_round}
use Rattle.grammar.specs.Flat.{Flat, at, symbol, denoted, price}
use Rattle.grammar.specs.Well.{WellFormed}
use Rattle.grammar.proofs.Denoted.{proper}
use Rattle.grammar.proofs.Well.{laid_end}
use Rattle.rows.proofs.Tables.{cleared_at}
use Rattle.tables.specs.Call.{Stepped}
use Rattle.tables.proofs.Stepping.{Stepping, round_start, round_held, round_inv, round_on, round_end}
use Rattle.engine.specs.Cost.{Long}
use Rattle.dearest.specs.Defined.{DearestCleared}
use Rattle.dearest.specs.Rounds.{DearestBegun, DearestRounds, DearestFound}
use Rattle.dearest.specs.Step.{DearestReady, DearestBecame}

-- the entries of a table of its length
begun_risen : (g : Flat) (l : List ℕ) → DearestBegun g l → Risen g.rules (at l)
begun_risen g l b = record { cap = b.cap; out = λ r le. get_or-eq_default l 0 (omega (arith, b.long)) }

-- the sizes of a lent grammar
pub limits : (g : Flat) → WellFormed g → ((t : ℕ) → price g t ≤ 255) → Limits (denoted g) (price g)
limits g w byte = record {
  few = w.sizes.rules_high;
  long = λ p lt. omega (arith, length-map (slice (at g.starts p) (at g.starts (p + 1)) g.symbols) symbol, length-slice (at g.starts p) (at g.starts (p + 1)) g.symbols (laid_end w.laid lt), w.sizes.symbols_high, laid_end w.laid lt);
  byte = byte;
}

module _ (g : Flat) (w : WellFormed g) (beyond : Bool) where
  abbrev dearest_filling : Filling (dearest_visit (denoted g) (price g) beyond) at Long (length g.owners)
  dearest_filling = record {
    Inv = Risen g.rules;
    top = g.rules * no_bound;
    climb = dearest_climb (denoted g) (price g) (proper g w) beyond;
    same = λ a. refl;
    then = λ a b d x y. y ∙ x;
  }

  abbrev dearest_stepping : Stepping (dearest_visit (denoted g) (price g) beyond) at Long (length g.owners) (λ ws. length ws ≡ g.rules) (DearestBecame g beyond)
  dearest_stepping = record {
    filling = dearest_filling;
    held = λ a b s h. s ∙ h;
    shows = λ p lt a b x. fun_ext x.entries;
    spares = λ p lt a b x. x.long;
    stays = λ p lt a h e. record { long = refl; entries = λ r. ap (λ z. z r) (sym e) };
    unique = λ p a b d x y. ext_get_or 0 b d (x.long ∙ sym y.long) (λ r lr. x.entries r ∙ sym (y.entries r));
  }

-- the first i productions of a round have had their turn
abbrev pub DearestTurned : Flat → (beyond down : Bool) → ℕ → List ℕ → Bool → List ℕ → Type 0
DearestTurned g beyond down i = Moves (dearest_visit (denoted g) (price g) beyond) at Long (turns down (length g.owners) i)

module _ (g : Flat) (l : List ℕ) (b : DearestBegun g l) (beyond down : Bool) where
  pub round_begin : DearestTurned g beyond down 0 l false l
  round_begin = round_start (dearest_stepping g b.well beyond) down l b.long (begun_risen g l b)

  module _ (i : ℕ) (x : Bool) (now : List ℕ) (m : DearestTurned g beyond down i l x now) where
    pub round_ready : (p : ℕ) → i < length g.owners → p ≡ turn down (length g.owners) i → DearestReady g p now
    round_ready p lt e = record {
      begun = record {
        well = b.well;
        byte = b.byte;
        long = round_held (dearest_stepping g b.well beyond) down l b.long (begun_risen g l b) i x now m;
        cap = (round_inv (dearest_stepping g b.well beyond) down l b.long (begun_risen g l b) i x now m (omega arith)).cap;
      };
      is_prod = turned down (length g.owners) i p lt e;
    }

    pub round_more : (p : ℕ) (y : Bool) (next : List ℕ) → i < length g.owners → p ≡ turn down (length g.owners) i → Stepped (DearestBecame g beyond p now) now y next → DearestTurned g beyond down (i + 1) l (x || y) next
    round_more = round_on (dearest_stepping g b.well beyond) down l b.long (begun_risen g l b) i x now m

    pub round_made : i ≤ length g.owners → length g.owners ≤ i → DearestRounds g beyond down l x now
    round_made = round_end (dearest_stepping g b.well beyond) down l b.long (begun_risen g l b) i x now m

-- rounds so far: i of the first R, and whether the last one changed something
pub record DearestStage (g : Flat) (i : ℕ) (changed : Bool) (now : List ℕ) : Type 0 where
  pub well : WellFormed g
  pub byte : (t : ℕ) → price g t ≤ 255
  pub long : length now ≡ g.rules
  pub stage : Stage (denoted g) (price g) (proper g well) (limits g well byte) i changed (at now)

abbrev pub dearest_left : Flat → ℕ → Bool → List ℕ → ℕ
dearest_left g i changed now = stage_left (denoted g) i changed (at now)

-- none known
zeros_cleared : (n : ℕ) → at (replicate n 0) ≡ dearest_cleared
zeros_cleared n = fun_ext (cleared_at n 0)

pub settle_start : (g : Flat) (l : List ℕ) → DearestCleared g l → DearestStage g 0 true l
settle_start g l c = record {
  well = c.well;
  byte = c.byte;
  long = rw c.zeros (length-replicate {A = ℕ} g.rules 0);
  stage = subst (λ z. Stage (denoted g) (price g) (proper g c.well) (limits g c.well c.byte) 0 true z) (sym (ap at c.zeros ∙ zeros_cleared g.rules)) (stage_start (denoted g) (price g) (proper g c.well) (limits g c.well c.byte));
}

module _ (g : Flat) (i : ℕ) (now : List ℕ) where
  pub settle_begun : (x : Bool) → DearestStage g i x now → DearestBegun g now
  settle_begun x s = record { well = s.well; byte = s.byte; long = s.long; cap = s.stage.risen.cap }

  pub settle_upto : (x : Bool) → DearestStage g i x now → i ≤ g.rules
  settle_upto x s = s.stage.upto

  pub settle_end : (x : Bool) → DearestStage g i x now → x ≡ false → DearestFound g now
  settle_end x s e = record { long = s.long; found = stage_end (denoted g) (price g) (proper g s.well) (limits g s.well s.byte) (subst (λ z. Stage (denoted g) (price g) (proper g s.well) (limits g s.well s.byte) i z (at now)) e s.stage) }

  module _ (x : Bool) (s : DearestStage g i x now) (e : x ≡ true) (n : ℕ) (en : n ≡ g.rules) (down y : Bool) (next : List ℕ) (m : DearestRounds g (leb n i) down now y next) (j : ℕ) (ej : j ≡ min (i + 1) n) where
    is_beyond : leb n i ≡ leb g.rules i
    is_beyond = rw en

    counts : j ≡ min (i + 1) g.rules
    counts = rw (ej, en)

    abbrev made : List ℕ
    made = turns down (length g.owners) (length g.owners)

    going : Stage (denoted g) (price g) (proper g s.well) (limits g s.well s.byte) i true (at now)
    going = subst (λ z. Stage (denoted g) (price g) (proper g s.well) (limits g s.well s.byte) i z (at now)) e s.stage

    pub settle_on : DearestStage g j y next
    settle_on = record {
      well = s.well;
      byte = s.byte;
      long = m.keeps ∙ s.long;
      stage = rw (counts, m.ran) (stage_on (denoted g) (price g) (proper g s.well) (limits g s.well s.byte) made (turns_round down (length g.owners)) i (at now) going (leb n i) y is_beyond (λ q. sym m.ran ∙ ap at (m.still q)));
    }

    pub settle_less : dearest_left g j y next < dearest_left g i x now
    settle_less =
        subst (λ z. dearest_left g z y next < dearest_left g i x now) (sym counts)
        (subst (λ z. stage_left (denoted g) (min (i + 1) g.rules) y z < dearest_left g i x now) (sym m.ran)
        (subst (λ z. stage_left (denoted g) (min (i + 1) g.rules) y (run (dearest_visit (denoted g) (price g) (leb n i)) made (at now)) < dearest_left g i z now) (sym e)
        (stage_less (denoted g) (price g) (proper g s.well) (limits g s.well s.byte) made (turns_round down (length g.owners)) i (at now) going (leb n i) y is_beyond (λ q z. m.told q (m.ran ∙ z)))))

-- the numbers stay as many
pub settle_length : (g : Flat) (l : List ℕ) → DearestCleared g l → (i : ℕ) (x : Bool) (now : List ℕ) → DearestStage g i x now → length now ≡ length l
settle_length g l c i x now s = s.long ∙ sym (settle_start g l c).long
