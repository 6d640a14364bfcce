-- A round, step by step, and rounds until one needs no other; for every kind.
use mathlib.Core.Bool.{Bool, true, false, cond, ◌||◌, false≢true}
use mathlib.Core.List.{List}
use mathlib.Core.Logic.{inl, inr}
use mathlib.Core.Path.{◌≡◌, refl, ◌∙◌, subst}
use Prim.Native.Nat.{ℕ, ◌+◌, ◌≤◌, ◌<◌}
use native.Mathlib.Decide.{ℕ_discrete}
use native.Mathlib.Omega.{arith}
use lib.ListN.{length}
use Rattle.theory.specs.Fills.{turn, turns, Moves}
use Rattle.theory.proofs.Bools.{or_split, or_none, or_left, or_right}
use Rattle.theory.proofs.Fills.{turned, turns_round, Settling, left}
use Rattle.grammar.specs.Flat.{Flat}
use Rattle.tables.proofs.Stepping.{round_start, round_held, round_on, round_end, settle_start, settle_held, settle_inv, settle_on, settle_end, settle_less}
use Rattle.engine.specs.First.{Lent}
use Rattle.engine.specs.Kinds.{Kind, kind_view, makes, Keeps, Served, Calm, Ready, Steps, Begun, Rounds, Settled}
use Rattle.engine.proofs.Instances.{stepping, begun_inv, inv_fit, table_long, row_same, room_of, room_is, due_run, due_among, calm_quiet}

-- the first i productions of a round have had their turn
pub record Turned (k : Kind) (g : Flat) (down : Bool) (i : ℕ) (l : Lent) (read : List Bool) (more : Bool) (now : Lent) : Type 0 where
  pub changed : Bool
  pub moves : Moves (makes k g) (kind_view k g) (Keeps k g) (turns down (length g.owners) i) l changed now
  pub told : more ≡ true → changed ≡ true
  pub long : length read ≡ 512
  pub calm : more ≡ false → (j : ℕ) → j < i → Calm k g (turn down (length g.owners) j) read now

-- rounds so far
abbrev pub Settle : Kind → Flat → Lent → Bool → Lent → Type 0
Settle k g = Settling (makes k g) (kind_view k g) (Keeps k g) (length g.owners)

-- one for a round still to be made, and one for each change that it can make
abbrev pub left_of : Kind → (R T : ℕ) → Lent → Bool → ℕ
left_of k R T l more = cond more (room_of k R T l + 1) 0

-- going up or down, each production has a turn
turn_back : (down : Bool) (P p : ℕ) → p < P → turn down P (turn down P p) ≡ p
turn_back true P p lt = omega arith
turn_back false P p lt = refl

module _ (k : Kind) (g : Flat) (l : Lent) (b : Begun k g l) where
  module _ (down : Bool) where
    pub turn_start : (read : List Bool) → length read ≡ 512 → Turned k g down 0 l read false l
    turn_start read e = record {
      changed = false;
      moves = round_start (stepping k g b.well) down l b.held (begun_inv k g l b);
      told = λ t. absurd (false≢true t);
      long = e;
      calm = λ t j lt. absurd (omega arith);
    }

    module _ (i : ℕ) (read : List Bool) (more : Bool) (now : Lent) (m : Turned k g down i l read more now) where
      pub turn_ready : (again : Bool) → (again ≡ true → (p : ℕ) → p < length g.owners → Served k g p (kind_view k g l)) → (p : ℕ) → i < length g.owners → p ≡ turn down (length g.owners) i → Ready k g again p now read
      turn_ready again d p lt e = let q = turned down (length g.owners) i p lt e in record {
        well = b.well;
        is_prod = q;
        held = round_held (stepping k g b.well) down l b.held (begun_inv k g l b) i m.changed now m.moves;
        reads = b.reads;
        due = λ t. rw m.moves.ran (due_run k g p (turns down (length g.owners) i) (kind_view k g l) (d t p q));
        long = m.long;
      }

      pub turn_on : (p : ℕ) (x y : Bool) (next : Lent) (read' : List Bool) → i < length g.owners → p ≡ turn down (length g.owners) i → Steps k g p now read x y next read' → Turned k g down (i + 1) l read' (more || y) next
      turn_on p x y next read' lt e s = record {
        changed = m.changed || x;
        moves = round_on (stepping k g b.well) down l b.held (begun_inv k g l b) i m.changed now m.moves p x next lt e s.steps;
        told = λ t. elim (or_split more y t) [ inl z ↦ or_left x (m.told z) | inr z ↦ or_right m.changed (s.told z) ];
        long = s.long ∙ m.long;
        calm = λ t j lj. let f = or_none more y t in elim (ℕ_discrete j i) [
          | yes q ↦ rw (q, ← e) (s.calm f.1)
          | no q ↦ s.stays f.1 (turn down (length g.owners) j) (m.calm f.0 j (omega arith))
        ];
      }

      pub turn_end : i ≤ length g.owners → length g.owners ≤ i → Rounds k g down l more now
      turn_end lo hi = record {
        changed = m.changed;
        moves = round_end (stepping k g b.well) down l b.held (begun_inv k g l b) i m.changed now m.moves lo hi;
        told = m.told;
        rests = λ t p lt. calm_quiet k g p read now (subst (λ z. Calm k g z read now) (turn_back down (length g.owners) p lt)
            (m.calm t (turn down (length g.owners) p) (omega (arith, turned down (length g.owners) p (turn down (length g.owners) p) lt refl))));
      }

      pub turn_long : length now.first ≡ length l.first
      turn_long = table_long k g l now b.held m.moves.keeps

      pub turn_row : length now.empty ≡ length l.empty
      turn_row = row_same k g l now b.held m.moves.keeps

  pub rounds_start : Settle k g l true l
  rounds_start = settle_start (stepping k g b.well) l b.held (begun_inv k g l b)

  module _ (x : Bool) (now : Lent) (s : Settle k g l x now) where
    pub rounds_begun : Begun k g now
    rounds_begun = record {
      well = b.well;
      held = settle_held (stepping k g b.well) l b.held (begun_inv k g l b) x now s;
      fit = inv_fit k g b.well now (settle_inv (stepping k g b.well) l b.held (begun_inv k g l b) x now s);
      reads = b.reads;
    }

    pub rounds_done : x ≡ false → Settled k g l now
    rounds_done = settle_end (stepping k g b.well) l b.held (begun_inv k g l b) x now s

    pub rounds_long : length now.first ≡ length l.first
    rounds_long = table_long k g l now b.held s.keeps

    pub rounds_row : length now.empty ≡ length l.empty
    rounds_row = row_same k g l now b.held s.keeps

    module _ (down more : Bool) (next : Lent) (m : Rounds k g down now more next) where
      pub rounds_again : Settle k g l more next
      rounds_again =
          let z = settle_on (stepping k g b.well) l b.held (begun_inv k g l b) x now s down m.changed next m.moves in
          record { visits = z.visits; valid = z.valid; ran = z.ran; keeps = z.keeps; rests = m.rests }

      -- each production had its turn
      pub rounds_due : (p : ℕ) → p < length g.owners → Served k g p (kind_view k g next)
      rounds_due p lt = rw m.moves.ran (due_among k g p (turns down (length g.owners) (length g.owners)) (kind_view k g now) ((turns_round down (length g.owners)).all p lt))

      less : x ≡ true → left_of k g.rules (length g.costs) next m.changed < left_of k g.rules (length g.costs) now x
      unfolding left
      less e = rw (room_is k g b.well now, room_is k g b.well next) at (settle_less (stepping k g b.well) l b.held (begun_inv k g l b) x now s down m.changed next m.moves e)

      pub rounds_less : x ≡ true → left_of k g.rules (length g.costs) next more < left_of k g.rules (length g.costs) now x
      rounds_less e = go more refl
        where
          go : (z : Bool) → more ≡ z → left_of k g.rules (length g.costs) next z < left_of k g.rules (length g.costs) now x
          go true t = subst (λ z. left_of k g.rules (length g.costs) next z < left_of k g.rules (length g.costs) now x) (m.told t) (less e)
          go false t = rw e (omega arith)
