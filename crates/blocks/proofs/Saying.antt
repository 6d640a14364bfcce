-- Lent lists of the limits' lengths, the reader answers what the file says, and its lists hold the file's grammar.
use mathlib.Core.Bool.{Bool, true, false}
use mathlib.Core.List.{List}
use mathlib.Core.Path.{◌≡◌, refl, sym, ◌∙◌, ap, subst}
use Prim.Native.Nat.{ℕ, ◌*◌, ◌<◌}
use native.Mathlib.Omega.{arith}
use lib.ListN.{length}
use Rattle.grammar.specs.Outcome.{Outcome, answers, refused, unless}
use Rattle.grammar.specs.Well.{WellFormed}
use Rattle.grammar.proofs.Outcomes.{not_both, refused_one}
use Rattle.blocks.specs.declared.Counts.{Counts}
use Rattle.std.specs.Prelude.{Result}
use Rattle.grammar.specs.declared.refusal.Refusal.{Refusal}
use Rattle.grammar.specs.Lent.{outcome_of}
use Rattle.blocks.specs.Layout.{counts_of, grammar_of}
use Rattle.blocks.specs.Refusals.{file_wrong, checks_differ, numbers_differ, counts_out, blocks_wrong, token_free}
use Rattle.blocks.specs.Steps.{Fronts, fronts}
use Rattle.blocks.specs.Reading.{Lists, lists, filled, unless_file, file_due, read_due, read_of, Read}
use Rattle.blocks.specs.Conditions.{Long, Limited}
use Rattle.blocks.proofs.Conditions.{if_long, whole_if}
use Rattle.blocks.proofs.Answering.{fronts_long, fronts_hold}
use Rattle.blocks.proofs.Exactly.{counts_given, left}

-- a refusal ends it, whatever comes after; where none is due, it is what comes after
module _ {A : Type 0} (x : Outcome A) where
  ends : (b : Bool) (k n : ℕ) (y : Outcome (Unit {0})) (z : Outcome A) → (y ≡ refused n → z ≡ refused n) → unless b k y ≡ refused n → unless b k z ≡ refused n
  ends true k n y z h e = ap refused (refused_one e)
  ends false k n y z h e = h e

  goes_on : (b : Bool) (k : ℕ) (y : Outcome (Unit {0})) (z : Outcome A) → (y ≡ answers tt → z ≡ x) → unless b k y ≡ answers tt → unless b k z ≡ x
  goes_on true k y z h e = absurd (not_both (sym e))
  goes_on false k y z h e = h e

  file_ends : (file : List ℕ) (n : ℕ) → file_due file ≡ refused n → unless_file file x ≡ refused n
  file_ends file n =
      ends (file_wrong (length file)) 20 n _ _
      (ends (checks_differ file) 21 n _ _
      (ends (numbers_differ file) 22 n _ _
      (ends (counts_out (counts_of file)) 1 n _ _
      (ends (blocks_wrong file (counts_of file)) 23 n _ _
      (ends (token_free (counts_of file).version (grammar_of file (counts_of file)).costs) 25 n _ _ (λ e. absurd (not_both e)))))))

  file_goes : (file : List ℕ) → file_due file ≡ answers tt → unless_file file x ≡ x
  file_goes file =
      goes_on (file_wrong (length file)) 20 _ _
      (goes_on (checks_differ file) 21 _ _
      (goes_on (numbers_differ file) 22 _ _
      (goes_on (counts_out (counts_of file)) 1 _ _
      (goes_on (blocks_wrong file (counts_of file)) 23 _ _
      (goes_on (token_free (counts_of file).version (grammar_of file (counts_of file)).costs) 25 _ _ (λ e. refl))))))

-- R, T, P, N and the version are answered: they are within the limits, and the fronts of the lists hold the file's well-formed grammar
pub record Held (file : List ℕ) (c : Counts) (owners starts symbols costs : List ℕ) : Type 0 where
  pub limited : Limited c
  pub well : WellFormed (fronts c owners starts symbols costs)
  pub long : Fronts c owners starts symbols costs
  pub holds : fronts c owners starts symbols costs ≡ grammar_of file c

module _ (file : List ℕ) (m : Lists) (long : Long m) (owners starts symbols costs : List ℕ) (r : Result Counts Refusal) (x : Read file m r (lists owners starts symbols costs)) where
  own : read_due file m ≡ file_due file
  own = rw (if_long m long)

  pub read_says : outcome_of r ≡ read_of file
  read_says = go (file_due file) refl
    where
      go : (o : Outcome (Unit {0})) → file_due file ≡ o → outcome_of r ≡ read_of file
      go (answers tt) e = (x.does (own ∙ e)).answer ∙ sym (file_goes _ file e)
      go (refused n) e = x.refuses n (own ∙ e) ∙ sym (file_ends _ file n e)

  pub read_holds : (c : Counts) → outcome_of r ≡ answers c → Held file c owners starts symbols costs
  read_holds c e =
      let h = (counts_given file m x c).0 e in
      let l = left file m x h.0 ∙ ap (λ k. filled (grammar_of file k) m) h.2 in
      let f = fronts_hold file c m owners starts symbols costs l in
      record {
        limited = subst Limited h.2 h.0.limited;
        well = subst WellFormed (sym f) (subst (λ k. WellFormed (grammar_of file k)) h.2 h.1);
        long = fronts_long file c m owners starts symbols costs l;
        holds = f;
      }

-- a file of over 98 blocks' bytes is refused with 20
pub over_refused : (file : List ℕ) → 512 * 98 < length file → read_of file ≡ refused 20
over_refused file l = go (file_wrong (length file)) refl
  where
    go : (b : Bool) → file_wrong (length file) ≡ b → read_of file ≡ refused 20
    go true e = rw e
    go false e = let w = whole_if file e in absurd (omega (arith, w.few, w.whole))
