-- The reached rules: rule 0 and what a search from it has seen, in the words of a lent row.
use Rattle.grammar.specs.Outcome.{Outcome}
use Rattle.grammar.specs.Outcome.{answers}
use mathlib.Core.Bool.{Bool, true, false, ◌||◌}
use mathlib.Core.List.{List}
use mathlib.Core.Logic.{inl, inr}
use mathlib.Core.Path.{◌≡◌, refl, sym, ◌∙◌, ap, subst}
use Prim.Native.Nat.{ℕ, ◌*◌, ◌/◌, ◌%◌, ◌≤◌, ◌<◌}
use native.Mathlib.Decide.{dec_lt}
use native.Mathlib.Omega.{arith}
use lib.Dec.{eqb}
use lib.ListN.{length, get_or, replicate, get_or-eq_default}
use borrow.Author.Tests.{eqb-true}
use Rattle.theory.specs.Search.{Reach}
use Rattle.theory.proofs.Bools.{or_split, or_left, or_right, eqb_same}
use Rattle.theory.proofs.Paths.{Uses}
use Rattle.theory.proofs.Reached.{reached_reach}
use Rattle.theory.proofs.Search.{chain_map}
use Rattle.grammar.specs.Flat.{Flat, flat, denoted}
use Rattle.grammar.specs.Well.{WellFormed}
use Rattle.rows.specs.Marks.{bit, place, mark, marked}
use Rattle.rows.specs.Tables.{Sized, row_view}
use Rattle.rows.proofs.Row.{row_mark, row_inside}
use Rattle.tables.specs.Entry.{RowDue}
use Rattle.tables.specs.Sizes.{words, row_wrong}
use Rattle.tables.proofs.Asking.{row_long, one_entered}
use Rattle.paths.specs.Lists.{row, Holds}
use Rattle.paths.specs.Search.{Searchable, Finds}
use Rattle.paths.specs.Reached.{ReachedDefined, Fillable, Copied}
use Rattle.paths.proofs.Going.{row_marked, marked_held}
use Rattle.paths.proofs.Steps.{chain_in, holds_uses, uses_holds}

-- the words of a row that are those of `seen` hold its marks
module _ (R : ℕ) (seen row₀ to : List ℕ) (len : length row₀ ≡ words R) (c : Copied seen row₀ to) where
  copied_mark : (r : ℕ) → r < words R * 32 → mark (words R) to 0 r ≡ mark 16 seen 0 r
  unfolding mark
  copied_mark r lt =
      let a : place (words R) 0 r ≡ r / 32 = omega arith in
      let b : place 16 0 r ≡ r / 32 = omega arith in
      ap (λ z. bit (get_or to z 0) (r % 32)) a ∙ ap (λ z. bit z (r % 32)) (c.same (r / 32) (omega (arith, len))) ∙ ap (λ z. bit (get_or seen z 0) (r % 32)) (sym b)

  copied_held : Sized 1 16 seen → Sized 1 (words R) to
  copied_held h = record {
    len = c.long ∙ len ∙ (let e : words R ≡ 1 * words R = omega arith in e);
    small = λ i. elim (dec_lt i (length row₀)) [
      | yes l ↦ rw (c.same i l) (h.small i)
      | no l ↦ let e : get_or to i 0 ≡ 0 = get_or-eq_default to 0 (omega (arith, c.long)) in rw e (omega arith)
    ];
  }

-- the steps of the search are those of the denoted grammar
module _ (g : Flat) (w : WellFormed g) where
  reach_uses : (r : ℕ) → Reach (Holds g.owners g.starts g.symbols) 0 r → Reach (Uses (denoted g)) 0 r
  reach_uses r (inl e) = inl e
  reach_uses r (inr c) = inr (chain_map (holds_uses g w) c)

  uses_reach : (r : ℕ) → Reach (Uses (denoted g)) 0 r → Reach (Holds g.owners g.starts g.symbols) 0 r
  uses_reach r (inl e) = inl e
  uses_reach r (inr c) = inr (chain_map (uses_holds g w) c)

  module _ (found : Bool) (seen : List ℕ) (f : Finds g.owners g.starts g.symbols 0 0 found seen) where
    -- rule 0 is not found
    not_found : found ≡ false
    not_found = go found refl
      where
        go : (b : Bool) → found ≡ b → found ≡ false
        go true e = absurd (omega (arith, (chain_in g w (f.yes e)).0))
        go false e = e

    -- with rule 0 the rules seen are the reached ones
    module _ (all : List ℕ) (is : all ≡ marked 16 seen 0 0) where
      all_row : (r : ℕ) → row all r ≡ (row seen r || eqb r 0)
      all_row r = ap (λ z. row z r) is ∙ ap (λ z. z r) (row_marked seen f.held 0 (omega arith))

      pub all_held : Sized 1 16 all
      all_held = rw is (marked_held seen f.held 0 (omega arith))

      all_reach : (r : ℕ) → Reach (Holds g.owners g.starts g.symbols) 0 r → row all r ≡ true
      all_reach r (inl e) = all_row r ∙ ap (λ z. row seen r || eqb z 0) e ∙ or_right (row seen r) (eqb_same 0)
      all_reach r (inr c) = all_row r ∙ or_left (eqb r 0) ((f.all not_found r).0 c)

      reach_all : (r : ℕ) → row all r ≡ true → Reach (Holds g.owners g.starts g.symbols) 0 r
      reach_all r e = elim (or_split (row seen r) (eqb r 0) (sym (all_row r) ∙ e)) [ inl k ↦ inr ((f.all not_found r).1 k) | inr k ↦ inl (eqb-true r 0 k) ]

      reach_in : (r : ℕ) → Reach (Holds g.owners g.starts g.symbols) 0 r → r < g.rules
      reach_in r (inl e) = omega (arith, w.sizes.rules_low)
      reach_in r (inr c) = (chain_in g w c).1

      module _ (ws to : List ℕ) (len : length ws ≡ words g.rules) (c : Copied all ws to) where
        to_row : (r : ℕ) → r < words g.rules * 32 → mark (words g.rules) to 0 r ≡ row all r
        to_row r lt = copied_mark g.rules all ws to len c r lt ∙ sym (row_mark 512 16 all r (omega (arith, w.sizes.rules_high)))

        in_view : (r : ℕ) → r < g.rules → row_view g.rules (words g.rules) to r ≡ row all r
        in_view r lt = row_mark g.rules (words g.rules) to r lt ∙ to_row r (omega arith)

        into : (r : ℕ) → Reach (Holds g.owners g.starts g.symbols) 0 r → row_view g.rules (words g.rules) to r ≡ true
        into r h = in_view r (reach_in r h) ∙ all_reach r h

        back : (r : ℕ) → row_view g.rules (words g.rules) to r ≡ true → Reach (Holds g.owners g.starts g.symbols) 0 r
        back r e = reach_all r (sym (in_view r (row_inside g.rules (words g.rules) to r e)) ∙ e)

        no_spare : (r : ℕ) → g.rules ≤ r → (b : Bool) → row all r ≡ b → row all r ≡ false
        no_spare r le true e = absurd (omega (arith, reach_in r (reach_all r e)))
        no_spare r le false e = e

        pub copied_defined : ReachedDefined g to
        copied_defined = record {
          held = copied_held g.rules all ws to len c all_held;
          exact = λ r. ((λ h. into r (uses_reach r ((reached_reach (denoted g) r).0 h))), λ e. (reached_reach (denoted g) r).1 (reach_uses r (back r e)));
          spare = λ r le lt. to_row r lt ∙ no_spare r le (row all r) refl;
        }

-- `reach`
module _ (rules : ℕ) (owners starts symbols costs : List ℕ) (ws : List ℕ) (ok : Fillable (flat rules owners starts symbols costs) ws) where
  pub reach_search : (n : ℕ) → n ≡ rules → Searchable n owners starts symbols 0 0 (replicate 16 0)
  reach_search n en = record { costs = costs; well = subst (λ z. WellFormed (flat z owners starts symbols costs)) (sym en) ok.well; is_from = omega (arith, ok.well.sizes.rules_low); is_to = omega (arith, ok.well.sizes.rules_low); unseen = refl }

  pub reach_short : length ws ≤ 16
  reach_short = omega (arith, ok.long, ok.well.sizes.rules_high)

  pub reach_defined : (found : Bool) (seen : List ℕ) → Finds owners starts symbols 0 0 found seen → (all : List ℕ) → all ≡ marked 16 seen 0 0 → (to : List ℕ) → Copied all ws to → ReachedDefined (flat rules owners starts symbols costs) to
  reach_defined found seen f all is to c = copied_defined (flat rules owners starts symbols costs) ok.well found seen f all is ws to ok.long c

-- `fill_reached`
pub reached_fillable : (g : Flat) (ws : List ℕ) (c : Outcome (Unit {0})) → RowDue g (length ws) c → c ≡ answers tt → Fillable g ws
reached_fillable g ws c is e = let k = one_entered row_wrong g ws c is e in record { well = k.0; long = row_long g.rules ws k.1 }
