-- A walk over `symbols[a..e]`: its number k is number a + k of the list, and from there on goes what is left of the stretch.
-- From the right its number i is number e - (i + 1) of the list.
use Rattle.std.proofs.Common.{◌≡◌, ℕ, ◌+◌, ◌-◌, ◌≤◌, ◌<◌, List, [], ◌∷◌, length, take, drop, ap, ◌∙◌, arith, length-take, length-drop}
use Rattle.std.proofs.Common.{Option, Some, None, Iter, Bor}
use Rattle.std.proofs.lemmas.List.{get_or-take, get_or-drop, get_or-reverse, get_or_default, length-reverse}
use Rattle.std.proofs.lemmas.Iterator.Adapters.{YieldsList-from_rev_slice}
use Rattle.std.proofs.lemmas.Iterator.Consumers.{YieldsList-turn, YieldsList-end}
use Rattle.std.specs.Iterator.{Yields}
use Rattle.std.specs.Iterator.Adapters.{rev_source, rev_steps}
use Rattle.std.specs.Slice.Iter.{iter_rest, iter_steps_back}
use Rattle.std.specs.declared.iter.Rev.{Rev}
use Rattle.theory.specs.Grammar.{tok, rul}
use Rattle.grammar.specs.Flat.{at, symbol, form}
use Rattle.grammar.proofs.Forms.{form_done, form_more, symbol_token, symbol_rule}

-- the list `symbols[a..e]`
abbrev pub span : List ℕ → (a e : ℕ) → List ℕ
span symbols a e = take (e - a) (drop a symbols)

module _ (symbols : List ℕ) (a e : ℕ) (fits : e ≤ length symbols) where
  span_long : length (span symbols a e) ≡ e - a
  span_long = omega (arith, length-take (e - a) (drop a symbols), length-drop a symbols)

  module _ (k : ℕ) where
    -- past its end nothing is left
    pub span_done : a + k ≤ e → length (span symbols a e) ≤ k → form symbols (a + k) e ≡ []
    span_done l h = form_done symbols (a + k) e l (omega (arith, span_long))

    module _ (h : k < length (span symbols a e)) where
      pub span_in : a + k < e
      span_in = omega (arith, span_long)

      pub span_at : at (span symbols a e) k ≡ at symbols (a + k)
      span_at = get_or-take (e - a) (drop a symbols) k 0 (omega (arith, span_long)) ∙ get_or-drop a symbols k 0

      -- symbol s is the next one, a token or a rule
      module _ (s : ℕ) (is : s ≡ at (span symbols a e) k) where
        pub span_is : s ≡ at symbols (a + k)
        span_is = is ∙ span_at

        pub span_more : form symbols (a + k) e ≡ symbol s ∷ form symbols (a + (k + 1)) e
        span_more =
            form_more symbols (a + k) e span_in fits
            ∙ rw (← span_is) (ap (λ (z : ℕ). symbol s ∷ form symbols z e) {x = a + k + 1} {y = a + (k + 1)} (omega arith))

        pub span_token : s < 32768 → form symbols (a + k) e ≡ tok s ∷ form symbols (a + (k + 1)) e
        span_token low = span_more ∙ ap (λ z. z ∷ form symbols (a + (k + 1)) e) (symbol_token s low)

        pub span_rule : 32768 ≤ s → form symbols (a + k) e ≡ rul (s - 32768) ∷ form symbols (a + (k + 1)) e
        span_rule high = span_more ∙ ap (λ z. z ∷ form symbols (a + (k + 1)) e) (symbol_rule s high)

-- from the right, number i is s
pub record Back (symbols : List ℕ) (a e i s : ℕ) : Type 0 where
  pub inside : a + i < e
  pub is : s ≡ at symbols (e - (i + 1))

pub back_more : (symbols : List ℕ) (a e i s : ℕ) → e ≤ length symbols → Back symbols a e i s → form symbols (e - (i + 1)) e ≡ symbol s ∷ form symbols (e - i) e
back_more symbols a e i s fits b =
    form_more symbols (e - (i + 1)) e (omega (arith, b.inside)) fits
    ∙ rw (← b.is) (ap (λ (z : ℕ). symbol s ∷ form symbols z e) {x = e - (i + 1) + 1} {y = e - i} (omega (arith, b.inside)))

-- what a loop over `symbols[a..e].iter().rev()` knows of its next symbol, and at its end
module _ (symbols : List ℕ) (a e : ℕ) (fits : e ≤ length symbols) (it : Rev (Iter ℕ)) (from : iter_rest (rev_source it) ≡ span symbols a e) (xs : List (Bor ℕ)) (t : Rev (Iter ℕ)) (y : Yields (rev_steps iter_steps_back) it xs t) (r : Option (Bor ℕ)) (u : Rev (Iter ℕ)) (step : rev_steps iter_steps_back t r u) where
  pub span_back : (x : Bor ℕ) → r ≡ Some x → Back symbols a e (length xs) x.now
  span_back x w =
      let n = YieldsList-turn (YieldsList-from_rev_slice (span symbols a e) from) xs t y r u x w step in
      let l : length xs < length (span symbols a e) = omega (arith, n.0, length-reverse (span symbols a e)) in
      let j = length (span symbols a e) - 1 - length xs in
      let q : j < length (span symbols a e) = omega arith in
      record {
        inside = omega (arith, span_long symbols a e fits);
        is =
            n.1
            ∙ get_or-reverse (span symbols a e) (length xs) x.now l
            ∙ get_or_default (span symbols a e) j x.now 0 q
            ∙ span_at symbols a e fits j q
            ∙ ap (at symbols) {x = a + j} {y = e - (length xs + 1)} (omega (arith, span_long symbols a e fits));
      }

  pub span_front : r ≡ None → e ≤ a + length xs
  span_front w =
      let n = YieldsList-end (YieldsList-from_rev_slice (span symbols a e) from) xs t y r u w step in
      omega (arith, n.1, length-reverse (span symbols a e), span_long symbols a e fits)
