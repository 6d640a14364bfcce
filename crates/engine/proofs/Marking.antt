-- Whether every rule of a stretch is marked: whether each symbol is.
use mathlib.Core.Bool.{Bool, true, ◌&&◌, and-true}
use mathlib.Core.List.{List, [], ◌∷◌}
use mathlib.Core.Path.{◌≡◌, refl, sym, ap, ◌∙◌}
use Prim.Native.Nat.{ℕ, ◌+◌, ◌-◌, ◌*◌, ◌≤◌, ◌<◌}
use native.Mathlib.Omega.{arith}
use lib.ListN.{length}
use Rattle.theory.specs.Grammar.{Sym, tok, rul, Form}
use Rattle.theory.specs.Visits.{Row, all_marked}
use Rattle.theory.proofs.Parts.{part_slice}
use Rattle.grammar.specs.Flat.{symbol, form}
use Rattle.std.specs.List.{list_all}
use Rattle.std.proofs.Common.{map, get_or}
use Rattle.std.proofs.lemmas.List.{get_or_default}
use Rattle.grammar.proofs.Forms.{symbol_token, symbol_rule}
use Rattle.rows.specs.Marks.{place, mark}
use Rattle.rows.proofs.Marks.{row_in}
use Rattle.rows.proofs.Row.{row_mark}
use Rattle.tables.specs.Sizes.{words}
use Rattle.engine.specs.Productive.{row_of, symbol_marked, SymbolReady, Marking}
use Rattle.engine.proofs.Spans.{span, span_in, span_is}

-- a form is marked if its first symbol is, and the rest
all_cons : (m : Row) (x : Sym) (α : Form) → all_marked m (x ∷ α) ≡ (all_marked m (x ∷ []) && all_marked m α)
all_cons m (tok t) α = refl
all_cons m (rul r) α = ap (λ z. z && all_marked m α) (sym (and-true (m r)))

-- one symbol
pub token_marked : (R : ℕ) (row : List ℕ) (s : ℕ) → s < 32768 → true ≡ symbol_marked R row s
unfolding symbol_marked
token_marked R row s low = rw (symbol_token s low)

module _ (R : ℕ) (row : List ℕ) (s : ℕ) (ok : SymbolReady R row s) (high : 32768 ≤ s) (wd x : ℕ) (ew : wd ≡ words R) (ex : x ≡ s - 32768) where
  pub rule_place : place wd 0 x < length row
  rule_place = rw (ew, ex) (row_in 1 R (words R) row 0 (s - 32768) (omega arith) (ok.long ∙ (let z : words R ≡ 1 * words R = omega arith in z)) (omega arith) (omega (arith, ok.rule high)))

  pub rule_marked : (b : Bool) → b ≡ mark wd row 0 x → b ≡ symbol_marked R row s
  unfolding symbol_marked
  rule_marked b e = e ∙ rw (ew, ex, symbol_rule s high, and-true (row_of R row (s - 32768))) (sym (row_mark R (words R) row (s - 32768) (omega (arith, ok.rule high))))

-- each symbol of a stretch can be looked up
module _ (R T : ℕ) (symbols : List ℕ) (a e : ℕ) (row : List ℕ) (ok : Marking R T symbols a e row) where
  pub marked_ready : (k s : ℕ) → k < length (span symbols a e) → s ≡ get_or (span symbols a e) k s → SymbolReady R row s
  marked_ready k s h is = record {
    few_rules = ok.few_rules;
    rule = rw (span_is symbols a e ok.fits k h s (is ∙ get_or_default (span symbols a e) k s 0 h)) ((ok.symbol (a + k) (omega (arith, ok.fits, span_in symbols a e ok.fits k h))).rule);
    long = ok.long;
  }

-- all rules of a stretch are marked if each symbol is a token or a rule that is marked
each_symbol : (R : ℕ) (row xs : List ℕ) → list_all (symbol_marked R row) xs ≡ all_marked (row_of R row) (map symbol xs)
unfolding symbol_marked
each_symbol R row [] = refl
each_symbol R row (x ∷ xs) = ap (λ z. all_marked (row_of R row) (symbol x ∷ []) && z) (each_symbol R row xs) ∙ sym (all_cons (row_of R row) (symbol x) (map symbol xs))

pub marked_each : (R : ℕ) (row symbols : List ℕ) (a e : ℕ) → list_all (symbol_marked R row) (span symbols a e) ≡ all_marked (row_of R row) (form symbols a e)
unfolding form
marked_each R row symbols a e = each_symbol R row (span symbols a e) ∙ ap (λ z. all_marked (row_of R row) (map symbol z)) (part_slice a e symbols)
