-- The joining at a production's end, turn by turn from the right.
use mathlib.Core.Bool.{Bool, true, false, not, ◌||◌, and-true}
use mathlib.Core.List.{List, ◌∷◌}
use mathlib.Core.Path.{◌≡◌, sym, ap, ◌∙◌, subst}
use Prim.Native.Nat.{ℕ, zero, suc, ◌+◌, ◌-◌, ◌≤◌, ◌<◌}
use native.Mathlib.Omega.{arith}
use lib.ListN.{length}
use borrow.Author.Tests.{not-true, not-false}
use Rattle.theory.specs.Grammar.{rul, Form}
use Rattle.theory.specs.Visits.{Table, Row, nullable}
use Rattle.grammar.specs.Flat.{at, symbol, form}
use Rattle.grammar.specs.Well.{SymbolFits}
use Rattle.grammar.proofs.Forms.{form_done, form_more, symbol_token, symbol_rule}
use Rattle.rows.specs.Marks.{place, mark, Raised, Rows}
use Rattle.rows.specs.Tables.{row_view}
use Rattle.rows.proofs.Marks.{row_in, row_whole}
use Rattle.rows.proofs.Row.{row_mark}
use Rattle.tables.specs.Sizes.{words}
use Rattle.engine.specs.Follow.{table_of, Grown, tail_back, Tailed}
use Rattle.engine.proofs.Growing.{grown_as, grown_none, grown_raise}
use Rattle.engine.proofs.Feeding.{tail_past, null_past}
use Rattle.engine.proofs.Spans.{Back, back_more}

-- the last i symbols have had their turn, and all of them vanish
pub record Tailing (R T : ℕ) (symbols : List ℕ) (a e o : ℕ) (empty follow now : List ℕ) (new : Bool) (i : ℕ) : Type 0 where
  pub high : a + i ≤ e
  pub null : nullable (row_view R (words R) empty) (form symbols (e - i) e) ≡ true
  pub grown : Grown R T (words T) follow now (tail_back (row_view R (words R) empty) o (form symbols (e - i) e) (table_of R T follow)) new

-- once not all from k on vanishes, the symbols before k change nothing
past : (E : Row) (o : ℕ) (f : Table) (symbols : List ℕ) (e : ℕ) → e ≤ length symbols → (d j k : ℕ) → j + d ≡ k → k ≤ e → nullable E (form symbols k e) ≡ false
    → (tail_back E o (form symbols j e) f ≡ tail_back E o (form symbols k e) f) × (nullable E (form symbols j e) ≡ false)
past E o f symbols e fits zero j k q l n =
    let z : j ≡ k = omega arith in
    (ap (λ x. tail_back E o (form symbols x e) f) z, ap (λ x. nullable E (form symbols x e)) z ∙ n)
past E o f symbols e fits (suc d) j k q l n =
    let ih = past E o f symbols e fits d (j + 1) k (omega arith) l n in
    let c = form_more symbols j e (omega arith) fits in (
      ap (λ (z : Form). tail_back E o z f) c ∙ tail_past E o (symbol (at symbols j)) (form symbols (j + 1) e) f ih.1 ∙ ih.0,
      ap (λ (z : Form). nullable E z) c ∙ null_past E (symbol (at symbols j)) (form symbols (j + 1) e) ih.1,
    )

module _ (R T : ℕ) (symbols : List ℕ) (a e o : ℕ) (empty follow : List ℕ) (p : Tailed R T symbols a e o empty follow) where
  abbrev E : Row
  E = row_view R (words R) empty

  abbrev F : Table
  F = table_of R T follow

  pub tail_start : Tailing R T symbols a e o empty follow follow false 0
  tail_start = record {
    high = omega (arith, p.rise);
    null = rw (form_done symbols (e - 0) e (omega arith) (omega arith));
    grown = rw (form_done symbols (e - 0) e (omega arith) (omega arith)) (grown_none follow p.follows);
  }

  module _ (now : List ℕ) (new : Bool) (i : ℕ) (w : Tailing R T symbols a e o empty follow now new i) where
    pub tail_long : length now ≡ length follow
    tail_long = w.grown.became.sized.len ∙ sym p.follows.len

    pub tail_end : e ≤ a + i → Grown R T (words T) follow now (tail_back E o (form symbols a e) F) new
    tail_end h = subst (λ z. Grown R T (words T) follow now (tail_back E o (form symbols z e) F) new) (let q : e - i ≡ a = omega (arith, w.high) in q) w.grown

    module _ (s : ℕ) (b : Back symbols a e i s) where
      more : form symbols (e - (i + 1)) e ≡ symbol s ∷ form symbols (e - i) e
      more = back_more symbols a e i s p.fits b

      fits : SymbolFits R T s
      fits = rw b.is (p.symbol (e - (i + 1)) (omega (arith, b.inside, p.fits)))

      -- nothing more is joined once not all from here on vanishes
      whole : nullable E (form symbols (e - (i + 1)) e) ≡ false → tail_back E o (form symbols (e - (i + 1)) e) F ≡ tail_back E o (form symbols a e) F
      whole n = sym (past E o F symbols e p.fits (e - (i + 1) - a) a (e - (i + 1)) (omega (arith, b.inside)) (omega arith) n).0

      -- a token
      pub tail_token : s < 32768 → Grown R T (words T) follow now (tail_back E o (form symbols a e) F) new
      tail_token low =
          let c = more ∙ ap (λ z. z ∷ form symbols (e - i) e) (symbol_token s low) in
          subst (λ (z : Table). Grown R T (words T) follow now z new)
          (sym (ap (λ (z : Form). tail_back E o z F) c) ∙ whole (ap (λ (z : Form). nullable E z) c)) w.grown

      -- a rule
      module _ (high : 32768 ≤ s) (r : ℕ) (er : r ≡ s - 32768) where
        below : r < R
        below = omega (arith, fits.rule high)

        rule : form symbols (e - (i + 1)) e ≡ rul r ∷ form symbols (e - i) e
        rule = more ∙ rw (symbol_rule s high, ← er)

        pub tail_rows : (wd : ℕ) → wd ≡ words T → Rows T wd now o now r
        tail_rows wd ew = rw ew (record {
          fits = omega arith;
          from = row_whole R (words T) now o w.grown.became.sized.len p.owner;
          to = row_whole R (words T) now r w.grown.became.sized.len below;
        })

        pub tail_place : (rd : ℕ) → rd ≡ words R → place rd 0 r < length empty
        tail_place rd ed = rw ed (row_in 1 R (words R) empty 0 r (omega arith) p.empties.len (omega arith) below)

        module _ (wd : ℕ) (ew : wd ≡ words T) (got : Bool) (next : List ℕ) (x : Raised T wd now next r (mark wd now o) got) where
          grows : Grown R T (words T) follow next (tail_back E o (form symbols (e - (i + 1)) e) F) (new || got)
          grows =
              rw rule
              (grown_as (tail_back E o (rul r ∷ form symbols (e - i) e) F)
              (λ q t lq lt. rw (w.grown.became.marks o t p.owner lt, w.null))
              (grown_raise (omega arith) below w.grown (rw ew at x)))

          module _ (rd : ℕ) (ed : rd ≡ words R) (m : Bool) (em : m ≡ mark rd empty 0 r) where
            vanishes : nullable E (form symbols (e - (i + 1)) e) ≡ m
            vanishes = rw (rule, w.null, row_mark R (words R) empty r below, em, ed) (and-true (mark (words R) empty 0 r))

            pub tail_stop : not m ≡ true → Grown R T (words T) follow next (tail_back E o (form symbols a e) F) (new || got)
            tail_stop t = subst (λ (z : Table). Grown R T (words T) follow next z (new || got)) (whole (vanishes ∙ not-true m t)) grows

            pub tail_on : not m ≡ false → Tailing R T symbols a e o empty follow next (new || got) (i + 1)
            tail_on t = record { high = omega (arith, b.inside); null = vanishes ∙ not-false m t; grown = grows }
