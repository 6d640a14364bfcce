-- One symbol's turn: what its row gets, and the row carried past it.
use mathlib.Core.Bool.{Bool, true, false, not, ◌&&◌, ◌||◌, or-false, or_comm}
use mathlib.Core.List.{List, ◌∷◌}
use mathlib.Core.Path.{◌≡◌, refl, sym, ap, ◌∙◌}
use Prim.Native.Nat.{ℕ, ◌-◌, ◌*◌, ◌≤◌, ◌<◌}
use native.Mathlib.Omega.{arith}
use lib.Dec.{eqb}
use lib.ListN.{length, replicate, length-replicate}
use Rattle.theory.specs.Grammar.{rul, Form}
use Rattle.theory.specs.Visits.{Marks, first_of}
use Rattle.theory.proofs.Bools.{eqb_turned}
use Rattle.grammar.proofs.Forms.{symbol_token, symbol_rule}
use Rattle.rows.specs.Marks.{place, mark, marked, Raised, Rows}
use Rattle.rows.specs.Tables.{Sized}
use Rattle.rows.proofs.Marks.{row_in, row_whole}
use Rattle.rows.proofs.Raise.{raised_row, raised_then, raised_mark}
use Rattle.rows.proofs.Tables.{cleared_mark, cleared_row}
use Rattle.tables.specs.Sizes.{words}
use Rattle.engine.specs.First.{Lent as Firsts, marks_of}
use Rattle.engine.proofs.FirstWalking.{first_mark, empty_mark}
use Rattle.engine.specs.Follow.{Puts, Kept, Passable, Passes, Turnable, Turns}
use Rattle.engine.proofs.Growing.{grown_rule}

-- `put`
module _ (T o r : ℕ) (ahead follow : List ℕ) (p : Puts T o r ahead follow) (wd : ℕ) (ew : wd ≡ words T) where
  wide : T ≤ wd * 32
  wide = omega arith

  pub put_own : Rows T wd follow o follow r
  put_own = rw ew p.own

  pub put_carried : Rows T wd ahead 0 follow r
  put_carried = rw ew p.carried

  pub put_after : (got : Bool) (mid : List ℕ) → Raised T wd follow mid r (mark wd follow o) got → Rows T wd ahead 0 mid r
  put_after got mid x = record { fits = put_carried.fits; from = put_carried.from; to = rw x.long put_carried.to }

  pub put_null : (null got also : Bool) (mid to : List ℕ) → null ≡ true → Raised T wd follow mid r (mark wd follow o) got → Raised T wd mid to r (mark wd ahead 0) also
      → Raised T (words T) follow to r (λ t. (null && mark (words T) follow o t) || mark (words T) ahead 0 t) (got || also)
  put_null null got also mid to e x y = rw (e, ← ew) (raised_then wide x y)

  pub put_not : (null also : Bool) (to : List ℕ) → null ≡ false → Raised T wd follow to r (mark wd ahead 0) also
      → Raised T (words T) follow to r (λ t. (null && mark (words T) follow o t) || mark (words T) ahead 0 t) also
  put_not null also to e y = rw (e, ← ew) y

-- `keep`
pub keep_yes : (row : List ℕ) (kept : Bool) → kept ≡ true → Kept row kept row
keep_yes row kept e = record { left = rw e }

pub keep_not : (row to : List ℕ) (kept : Bool) → kept ≡ false → to ≡ replicate (length row) 0 → Kept row kept to
keep_not row to kept e h = record { left = rw e h }

module _ (row to : List ℕ) where
  kept_long : (kept : Bool) → Kept row kept to → length to ≡ length row
  kept_long true h = ap length h.left
  kept_long false h = ap length h.left ∙ length-replicate {A = ℕ} (length row) 0

  kept_mark : (W : ℕ) (kept : Bool) → Kept row kept to → (t : ℕ) → mark W to 0 t ≡ (kept && mark W row 0 t)
  kept_mark W true h t = ap (λ z. mark W z 0 t) h.left
  kept_mark W false h t = ap (λ z. mark W z 0 t) h.left ∙ cleared_mark W (length row) 0 t

-- `pass`
module _ (R T r : ℕ) (read : Firsts) (ahead : List ℕ) (p : Passable R T r read ahead) where
  pub pass_place : (rd : ℕ) → rd ≡ words R → place rd 0 r < length read.empty
  pass_place rd er = rw er (row_in 1 R (words R) read.empty 0 r (omega arith) p.held.empty.len (omega arith) p.rule)

  pub pass_rows : (kept : Bool) (mid : List ℕ) (wd : ℕ) → Kept ahead kept mid → wd ≡ words T → Rows T wd read.first r mid 0
  pass_rows kept mid wd k ew = record {
    fits = omega arith;
    from = rw ew (row_whole R (words T) read.first r p.held.first.len p.rule);
    to = rw (ew, kept_long ahead mid kept k) (row_whole 1 (words T) ahead 0 p.carried.len (omega arith));
  }

  module _ (rd : ℕ) (vanishes got : Bool) (mid to : List ℕ) (wd : ℕ) (er : rd ≡ words R) (ev : vanishes ≡ mark rd read.empty 0 r) (k : Kept ahead vanishes mid) (ew : wd ≡ words T)
      (x : Raised T wd mid to 0 (mark wd read.first r) got) where
    abbrev m : Marks
    m = marks_of R T read

    empty_is : m.empty r ≡ vanishes
    empty_is = empty_mark R T read r p.rule ∙ sym (ev ∙ rw er)

    joined : Raised T (words T) mid to 0 (mark (words T) read.first r) got
    joined = rw ew at x

    ahead_is : (v : Form) (u : ℕ) → u < T → ((vanishes && first_of m v u) || mark (words T) read.first r u) ≡ first_of m (rul r ∷ v) u
    ahead_is v u lu = rw (empty_is, first_mark R T read r u p.rule lu) (or_comm (vanishes && first_of m v u) (mark (words T) read.first r u))

    pub pass_done : Passes T m r ahead vanishes to
    pass_done = record {
      long = x.long ∙ kept_long ahead mid vanishes k;
      carries = λ v null d. record {
        sized = record { len = x.long ∙ kept_long ahead mid vanishes k ∙ d.sized.len; small = x.small };
        marks = λ u lu.
            raised_row (omega arith) joined u lu
            ∙ ap (λ (z : Bool). z || mark (words T) read.first r u) (kept_mark ahead mid (words T) vanishes k u ∙ ap (λ (z : Bool). vanishes && z) (d.marks u lu))
            ∙ ahead_is v u lu;
        vanishes = rw (empty_is, d.vanishes);
      };
    }

-- `one`
module _ (R T o s : ℕ) (read : Firsts) (ahead follow : List ℕ) (p : Turnable R T o s read ahead follow) where
  -- a token
  module _ (low : s < 32768) (mid : List ℕ) (wd t : ℕ) (em : mid ≡ replicate (length ahead) 0) (ew : wd ≡ words T) (et : t ≡ s) where
    zero : mid ≡ replicate (words T) 0
    zero = em ∙ ap (λ z. replicate z 0) (let e : length ahead ≡ words T = omega (arith, p.carried.len) in e)

    row : Sized 1 (words T) mid
    row = rw zero (cleared_row (words T))

    below : s < T
    below = omega (arith, p.fits.token low)

    pub token_place : place wd 0 t < length mid
    token_place = rw (ew, et) (row_in 1 T (words T) mid 0 s (omega arith) row.len (omega arith) below)

    pub one_token : (m : Marks) (null b : Bool) (to : List ℕ) → b ≡ not (mark wd mid 0 t) → to ≡ marked wd mid 0 t → Turns R T o m s null ahead follow false false to follow
    one_token m null b to eb eo = record {
      ahead_long = raised.long ∙ row.len ∙ sym p.carried.len;
      follow_long = refl;
      carries = λ v k. rw (symbol_token s low) (record {
        sized = record { len = raised.long ∙ row.len; small = raised.small };
        marks = λ u lu.
            raised_row (omega arith) raised u lu
            ∙ ap (λ (z : Bool). z || eqb u s) (ap (λ z. mark (words T) z 0 u) zero ∙ cleared_mark (words T) (words T) 0 u)
            ∙ eqb_turned u s;
        vanishes = refl;
      });
      grown = λ v ws b k g. rw (symbol_token s low, or-false b) g;
    }
      where
        raised : Raised T (words T) mid to 0 (λ u. eqb u s) b
        raised = rw (eb, eo, ew, et) (raised_mark T (words T) mid 0 s (omega arith) row.small (row_in 1 T (words T) mid 0 s (omega arith) row.len (omega arith) below) below)

  -- a rule
  module _ (high : 32768 ≤ s) (r : ℕ) (er : r ≡ s - 32768) where
    rule : r < R
    rule = omega (arith, p.fits.rule high)

    pub one_put : Puts T o r ahead follow
    one_put = record {
      few_tokens = p.few_tokens;
      own = record { fits = omega arith; from = row_whole R (words T) follow o p.follows.len p.owner; to = row_whole R (words T) follow r p.follows.len rule };
      carried = record { fits = omega arith; from = row_whole 1 (words T) ahead 0 p.carried.len (omega arith); to = row_whole R (words T) follow r p.follows.len rule };
    }

    pub one_pass : Passable R T r read ahead
    one_pass = record { few_rules = p.few_rules; few_tokens = p.few_tokens; rule = rule; held = p.held; carried = p.carried }

    pub one_rule_law : (m : Marks) (null got vanishes : Bool) (ahead' follow' : List ℕ)
        → Raised T (words T) follow follow' r (λ t. (null && mark (words T) follow o t) || mark (words T) ahead 0 t) got
        → Passes T m r ahead vanishes ahead' → Turns R T o m s null ahead follow got (vanishes && null) ahead' follow'
    one_rule_law m null got vanishes ahead' follow' x y = record {
      ahead_long = y.long;
      follow_long = x.long;
      carries = λ v k. rw (symbol_rule s high, ← er) (y.carries v null k);
      grown = λ v ws b k g. rw (symbol_rule s high, ← er) (grown_rule R T m o p.owner ws r v rule follow follow' ahead null b got g k x);
    }
