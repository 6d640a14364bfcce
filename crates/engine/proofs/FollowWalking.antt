-- The walk from the right, turn by turn: the row carried along, and FOLLOW as the symbols from i on left it.
use mathlib.Core.Bool.{Bool, true, false, ◌||◌}
use mathlib.Core.List.{List, ◌∷◌}
use mathlib.Core.Path.{◌≡◌, refl, sym, ap, ◌∙◌, subst}
use Prim.Native.Nat.{ℕ, ◌+◌, ◌-◌, ◌≤◌, ◌<◌}
use native.Mathlib.Omega.{arith}
use lib.ListN.{length}
use Rattle.theory.specs.Fills.{turn}
use Rattle.theory.specs.Visits.{Marks, follow_back}
use Rattle.grammar.specs.Flat.{at, symbol, form}
use Rattle.grammar.proofs.Forms.{form_done, form_more}
use Rattle.rows.proofs.Tables.{cleared_mark, cleared_row}
use Rattle.tables.specs.Sizes.{words}
use Rattle.engine.specs.First.{Lent as Firsts}
use Rattle.engine.specs.Follow.{table_of, Grown, Carries, Turnable, Turns, Walkable}
use Rattle.engine.proofs.Growing.{grown_none}

-- the last i symbols have had their turn
pub record Walking (R T : ℕ) (symbols : List ℕ) (a e o : ℕ) (m : Marks) (follow ahead now : List ℕ) (new null : Bool) (i : ℕ) : Type 0 where
  pub high : a + i ≤ e
  pub carries : Carries T m (form symbols (e - i) e) ahead null
  pub grown : Grown R T (words T) follow now (follow_back m o (form symbols (e - i) e) (table_of R T follow)) new

module _ (R T : ℕ) (symbols : List ℕ) (a e o : ℕ) (read : Firsts) (row follow : List ℕ) (p : Walkable R T symbols a e o read row follow) (m : Marks) where
  pub walk_start : Walking R T symbols a e o m follow row follow false true 0
  walk_start = record {
    high = omega (arith, p.forth.rise);
    carries = rw (form_done symbols (e - 0) e (omega arith) (omega arith), p.carried) (record { sized = cleared_row (words T); marks = λ t lt. cleared_mark (words T) (words T) 0 t; vanishes = refl });
    grown = rw (form_done symbols (e - 0) e (omega arith) (omega arith)) (grown_none follow p.follows);
  }

  module _ (ahead now : List ℕ) (new null : Bool) (i : ℕ) (w : Walking R T symbols a e o m follow ahead now new null i) where
    pub ahead_long : length ahead ≡ length row
    ahead_long = w.carries.sized.len ∙ sym (ap length p.carried ∙ (cleared_row (words T)).len)

    pub follow_long : length now ≡ length follow
    follow_long = w.grown.became.sized.len ∙ sym p.follows.len

    pub walk_end : e - a ≤ i → Grown R T (words T) follow now (follow_back m o (form symbols a e) (table_of R T follow)) new
    walk_end h = subst (λ z. Grown R T (words T) follow now (follow_back m o (form symbols z e) (table_of R T follow)) new) (let q : e - i ≡ a = omega (arith, w.high) in q) w.grown

    -- a symbol of the stretch
    module _ (k : ℕ) (lk : k < e - a) where
      pub walk_in : a + k < length symbols
      walk_in = omega (arith, p.forth.fits)

      pub walk_turn : Turnable R T o (at symbols (a + k)) read ahead now
      walk_turn = record {
        few_rules = p.forth.few_rules;
        few_tokens = p.forth.few_tokens;
        owner = p.forth.owner;
        fits = p.forth.symbol (a + k) walk_in;
        held = p.forth.held;
        carried = w.carries.sized;
        follows = w.grown.became.sized;
      }

    -- the next one from the right
    module _ (k : ℕ) (ek : k ≡ turn true (e - a) i) (h : i < e - a) where
      more : form symbols (e - (i + 1)) e ≡ symbol (at symbols (a + k)) ∷ form symbols (e - i) e
      more =
          ap (λ (z : ℕ). form symbols z e) {x = e - (i + 1)} {y = a + k} (omega arith)
          ∙ form_more symbols (a + k) e (omega arith) p.forth.fits
          ∙ ap (λ (z : ℕ). symbol (at symbols (a + k)) ∷ form symbols z e) {x = a + k + 1} {y = e - i} (omega arith)

      pub walk_on : (got null' : Bool) (ahead' next : List ℕ) → Turns R T o m (at symbols (a + k)) null ahead now got null' ahead' next → Walking R T symbols a e o m follow ahead' next (new || got) null' (i + 1)
      walk_on got null' ahead' next x = record {
        high = omega arith;
        carries = rw more (x.carries (form symbols (e - i) e) w.carries);
        grown = rw more (x.grown (form symbols (e - i) e) follow new w.carries w.grown);
      }
