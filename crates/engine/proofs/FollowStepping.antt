-- One production's step: what it asks of the test whether its owner is reached, of the walk and of the joining at its end, and what it leaves.
use mathlib.Core.Bool.{Bool, true, false, false≢true}
use mathlib.Core.List.{List, ◌∷◌}
use mathlib.Core.Path.{◌≡◌, refl, sym, ap, ◌∙◌, subst}
use Prim.Native.Nat.{ℕ, zero, suc, ◌*◌, ◌≤◌, ◌<◌}
use native.Mathlib.Omega.{arith}
use lib.ListN.{length, take, replicate, length-replicate}
use Rattle.theory.specs.Visits.{Table, follow_back}
use Rattle.theory.proofs.Follow.{unreached_same}
use Rattle.grammar.specs.Flat.{Flat, flat, at, ProdAt, form, denoted}
use Rattle.grammar.proofs.Forms.{placed}
use Rattle.tables.specs.Call.{Stepped}
use Rattle.tables.specs.Sizes.{words}
use Rattle.engine.specs.First.{lent as firsts, marks_of}
use Rattle.engine.proofs.FirstStepping.{walkable}
use Rattle.engine.specs.Follow.{Reads, reads, table_of, reached_of, Grown, Walkable, visit_of, Ready, FollowBecame, Fed, tail_back, Tailed, StepReady}
use Rattle.engine.proofs.Feeding.{back_tail}
use Rattle.rows.specs.Marks.{place, mark}
use Rattle.rows.specs.Tables.{row_view, Became}
use Rattle.rows.proofs.Marks.{row_in}
use Rattle.rows.proofs.Row.{row_mark}
use Rattle.rows.proofs.Raise.{fresh_not}
use Rattle.rows.proofs.Tables.{became_self}

-- the front of a row of zeros
take_zeros : (n k : ℕ) → n ≤ k → ◌≡◌ {A = List ℕ} (take n (replicate k 0)) (replicate n 0)
take_zeros zero k h = refl
take_zeros (suc n) zero h = absurd (omega arith)
take_zeros (suc n) (suc k) h = ap (λ (r : List ℕ). 0 ∷ r) (take_zeros n k (omega arith))

-- what production p's step asks of the walk
module _ (rules : ℕ) (owners starts symbols costs : List ℕ) (p : ℕ) (read : Reads) (follow : List ℕ) (ok : Ready (flat rules owners starts symbols costs) p read follow) (w : ℕ) (ew : w ≡ words (length costs)) where
  zeros : ◌≡◌ {A = List ℕ} (take w (replicate 16 0)) (replicate w 0)
  zeros = take_zeros w 16 (omega (arith, ok.first.well.sizes.tokens_high))

  pub row_long : w ≡ length {A = ℕ} (take w (replicate 16 0))
  row_long = sym (ap length zeros ∙ length-replicate {A = ℕ} w 0)

  pub step_walk : (n o a e : ℕ) → n ≡ rules → ProdAt owners starts p o a e → Walkable n (length costs) symbols a e o read.firsts (take w (replicate 16 0)) follow
  step_walk n o a e en h = record {
    forth = walkable rules owners starts symbols costs p read.firsts ok.first n o a e en h;
    carried = zeros ∙ ap (λ z. replicate z 0) ew;
    follows = rw en ok.follows;
  }

-- what it asks of the joining at its end, where it is fed
module _ (rules : ℕ) (owners starts symbols costs : List ℕ) (p : ℕ) (first empty reached follow : List ℕ) (ok : Ready (flat rules owners starts symbols costs) p (reads (firsts first empty) reached) follow) where
  pub step_tail : (n o a e : ℕ) → n ≡ rules → ProdAt owners starts p o a e → Tailed n (length costs) symbols a e o empty follow
  step_tail n o a e en h =
      let k = walkable rules owners starts symbols costs p (firsts first empty) ok.first n o a e en h in
      record {
        few_rules = k.few_rules;
        few_tokens = k.few_tokens;
        rise = k.rise;
        fits = k.fits;
        owner = k.owner;
        symbol = k.symbol;
        empties = k.held.empty;
        follows = rw en ok.follows;
      }

module _ (g : Flat) (p : ℕ) (read : Reads) (follow : List ℕ) (ok : Ready g p read follow) (n a e o : ℕ) (en : n ≡ g.rules) (h : ProdAt g.owners g.starts p o a e) where
  owner_in : o < n
  owner_in = rw (en, h.owner) (ok.first.well.owner p ok.first.is_prod)

  row_words : length read.reached ≡ words n
  row_words = rw en ok.reached

  module _ (w : ℕ) (ew : w ≡ words n) where
    -- what it asks of the test whether the owner is reached
    pub step_place : place w 0 o < length read.reached
    step_place = rw ew (row_in 1 n (words n) read.reached 0 o (omega arith) (row_words ∙ (let z : words n ≡ 1 * words n = omega arith in z)) (omega arith) owner_in)

    -- and what that test tells
    pub step_reached : (b : Bool) → b ≡ mark w read.reached 0 o → b ≡ reached_of n read.reached o
    step_reached b eb = rw (eb, ew) (sym (row_mark n (words n) read.reached o owner_in))

  module _ (b : Bool) (eb : b ≡ reached_of n read.reached o) where
    pub reached_is : (x : Bool) → b ≡ x → reached_of g.rules read.reached (at g.owners p) ≡ x
    reached_is x k = subst (λ z. reached_of g.rules read.reached z ≡ x) h.owner (subst (λ z. reached_of z read.reached o ≡ x) en (sym eb ∙ k))

    -- it is not, and nothing changes
    pub step_not : b ≡ false → Stepped (FollowBecame g read p follow) follow false follow
    step_not k = record {
      became = subst (λ z. Became g.rules (length g.costs) (words (length g.costs)) follow follow z) (sym (unreached_same (denoted g) _ (reached_of g.rules read.reached) p _ (reached_is false k))) (became_self g.rules (length g.costs) (words (length g.costs)) follow ok.follows);
      told = λ t. absurd (false≢true t);
      still = λ t. refl;
    }

    -- it is, and the walk has been made
    module _ (k : b ≡ true) (new : Bool) (to : List ℕ)
        (x : Grown n (length g.costs) (words (length g.costs)) follow to (follow_back (marks_of n (length g.costs) read.firsts) o (form g.symbols a e) (table_of n (length g.costs) follow)) new) where
      grown : Grown g.rules (length g.costs) (words (length g.costs)) follow to (visit_of g read p (table_of g.rules (length g.costs) follow)) new
      grown = let q = placed g ok.first.well p ok.first.is_prod o a e h in rw (reached_is true k, q.body, q.owns, ← en) x

      pub step_done : Stepped (FollowBecame g read p follow) follow new to
      step_done = record {
        became = grown.became;
        told = λ t q. fresh_not (grown.told t).fresh q;
        still = grown.still;
      }

-- the same where it is fed and the joining at its end was made
pub step_tailed : (g : Flat) (p : ℕ) (first empty reached follow : List ℕ) (fed : Bool) → StepReady g p fed (reads (firsts first empty) reached) follow → (n a e o : ℕ) → (en : n ≡ g.rules) → ProdAt g.owners g.starts p o a e
    → (b : Bool) → b ≡ reached_of n reached o → b ≡ true → (new : Bool) (to : List ℕ) → fed ≡ true
    → Grown n (length g.costs) (words (length g.costs)) follow to (tail_back (row_view n (words n) empty) o (form g.symbols a e) (table_of n (length g.costs) follow)) new
    → Stepped (FollowBecame g (reads (firsts first empty) reached) p follow) follow new to
unfolding marks_of
step_tailed g p first empty reached follow fed ok n a e o en h b eb k new to t x =
    let q = placed g ok.ready.first.well p ok.ready.first.is_prod o a e h in
    let c = reached_is g p (reads (firsts first empty) reached) follow ok.ready n a e o en h b eb true k in
    let y : Fed (marks_of g.rules (length g.costs) (firsts first empty)) (form g.symbols a e) (table_of g.rules (length g.costs) follow) = rw q.body at (ok.feeds t c) in
    let z = back_tail (denoted g) (marks_of g.rules (length g.costs) (firsts first empty)) o (form g.symbols a e) (table_of g.rules (length g.costs) follow) y in
    step_done g p (reads (firsts first empty) reached) follow ok.ready g.rules a e o refl h b (subst (λ i. b ≡ reached_of i reached o) en eb) k new to
    (subst (λ (i : Table). Grown g.rules (length g.costs) (words (length g.costs)) follow to i new) (sym z)
    (subst (λ i. Grown i (length g.costs) (words (length g.costs)) follow to (tail_back (row_view i (words i) empty) o (form g.symbols a e) (table_of i (length g.costs) follow)) new) en x))

-- a step that goes by nothing fed
pub step_unfed : (g : Flat) (p : ℕ) (read : Reads) (follow : List ℕ) → Ready g p read follow → StepReady g p false read follow
step_unfed g p read follow ok = record { ready = ok; feeds = λ e. absurd (false≢true e) }
