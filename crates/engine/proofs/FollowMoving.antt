-- A step on lent words is a visit of the marks that they hold, whatever the tables hold.
use mathlib.Core.Bool.{true}
use mathlib.Core.List.{List}
use mathlib.Core.Path.{◌≡◌, refl, sym, ◌∙◌, subst}
use Prim.Native.Nat.{ℕ, ◌*◌, ◌<◌}
use lib.ListN.{length}
use Rattle.theory.proofs.Count.{Inside, climb}
use Rattle.theory.proofs.Fills.{Filling}
use Rattle.theory.proofs.Follow.{follow_inside, follow_grows}
use Rattle.grammar.specs.Flat.{Flat, denoted}
use Rattle.grammar.specs.Well.{WellFormed}
use Rattle.grammar.proofs.Denoted.{proper}
use Rattle.rows.specs.Tables.{Sized, Became}
use Rattle.rows.proofs.Tables.{view_inside, became_self, became_view, became_one}
use Rattle.tables.specs.Sizes.{words}
use Rattle.tables.proofs.Stepping.{Stepping}
use Rattle.engine.specs.First.{Lent as Firsts, marks_of}
use Rattle.engine.proofs.FirstMoving.{first_in}
use Rattle.engine.specs.Follow.{Reads, table_of, reached_of, Spared, visit_of, FollowBecame}

pub spared_same : (R T : ℕ) (a : List ℕ) → Spared R T a a
spared_same R T a = record { held = λ h. h; spare = λ r t lr le lt. refl }

pub spared_then : (R T : ℕ) (a b d : List ℕ) → Spared R T a b → Spared R T b d → Spared R T a d
spared_then R T a b d x y = record { held = λ h. y.held (x.held h); spare = λ r t lr le lt. y.spare r t lr le lt ∙ x.spare r t lr le lt }

-- a table of its length keeps it
pub long : {R T : ℕ} {a b : List ℕ} → Sized R (words T) a → Spared R T a b → length b ≡ length a
long h s = (s.held h).len ∙ sym h.len

-- FIRST has no mark at T or past it
pub low : (R T : ℕ) (read : Firsts) (r t : ℕ) → (marks_of R T read).first r t ≡ true → t < T
low R T read r t e = (first_in R T read r t e).1

module _ (g : Flat) (w : WellFormed g) (read : Reads) where
  -- rounds of FOLLOW on lent words
  abbrev pub filling : Filling (visit_of g read) (table_of g.rules (length g.costs)) (Spared g.rules (length g.costs)) (length g.owners)
  filling = record {
    Inv = λ f. Inside g.rules (length g.costs) f;
    top = g.rules * length g.costs;
    climb = climb (follow_grows (denoted g) (proper g w) (marks_of g.rules (length g.costs) read.firsts) (low g.rules (length g.costs) read.firsts) (reached_of g.rules read.reached));
    same = spared_same g.rules (length g.costs);
    then = spared_then g.rules (length g.costs);
  }

  -- the marks of words stand in R rows and T tokens
  pub words_in : (follow : List ℕ) → Inside g.rules (length g.costs) (table_of g.rules (length g.costs) follow)
  words_in follow = view_inside g.rules (length g.costs) (words (length g.costs)) follow

  -- FOLLOW on lent words, step by step
  abbrev pub stepping : Stepping (visit_of g read) (table_of g.rules (length g.costs)) (Spared g.rules (length g.costs)) (length g.owners)
      (Sized g.rules (words (length g.costs))) (FollowBecame g read)
  stepping = record {
    filling = filling;
    held = λ a b s. s.held;
    shows = λ p lt a b x. became_view g.rules (length g.costs) (words (length g.costs)) a b _
        (follow_inside (denoted g) (proper g w) (marks_of g.rules (length g.costs) read.firsts) (low g.rules (length g.costs) read.firsts) (reached_of g.rules read.reached) p lt _ (words_in a)) x;
    spares = λ p lt a b x. record { held = λ h. x.sized; spare = x.spare };
    stays = λ p lt a h e. subst (λ z. Became g.rules (length g.costs) (words (length g.costs)) a a z) (sym e) (became_self g.rules (length g.costs) (words (length g.costs)) a h);
    unique = λ p a b d x y. became_one g.rules (length g.costs) (words (length g.costs)) a b d _ x y;
  }
