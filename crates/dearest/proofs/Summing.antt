-- The sum of a stretch, symbol by symbol from the right.
use mathlib.Core.List.{List}
use mathlib.Core.Path.{◌≡◌, refl, sym, ◌∙◌, ap, subst}
use Prim.Native.Nat.{ℕ, zero, suc, ◌+◌, ◌-◌, ◌≤◌, ◌<◌, min}
use native.Mathlib.Omega.{arith}
use Rattle.theory.specs.DearestVisits.{no_bound, add_up, sym_dearest, form_dearest}
use Rattle.theory.specs.Grammar.{Sym, tok, rul}
use Rattle.theory.proofs.AddUp.{addup_known, addup_grows}
use Rattle.grammar.specs.Flat.{at, symbol, form}
use Rattle.grammar.proofs.Forms.{form_done, form_more, symbol_token, symbol_rule}
use Rattle.engine.specs.Cost.{SymbolPriced}
use Rattle.engine.proofs.Spans.{Back, back_more}
use Rattle.dearest.specs.Step.{part_of, Summable, sum_of}

-- `symbol_part`
module _ (costs dearest : List ℕ) (s x : ℕ) where
  pub part_token : s < 32768 → x ≡ s → (n : ℕ) → n ≡ at costs x → n + 1 ≡ part_of costs dearest s
  unfolding part_of
  part_token low ex n e = rw (symbol_token s low) (omega (arith, e, ap (at costs) ex))

  pub part_rule : 32768 ≤ s → x ≡ s - 32768 → (n : ℕ) → n ≡ at dearest x → n ≡ part_of costs dearest s
  unfolding part_of
  part_rule high ex n e = rw (symbol_rule s high) (e ∙ ap (at dearest) ex)

-- a part that is not known leaves nothing known
unknown_right : (x : ℕ) → add_up x 0 ≡ 0
unknown_right zero = refl
unknown_right (suc v) = refl

-- after i symbols from the right: n is their sum, and all parts of it are known
pub record Summed (symbols costs : List ℕ) (a e : ℕ) (dearest : List ℕ) (i n : ℕ) : Type 0 where
  pub high : a + i ≤ e
  pub is : n ≡ form_dearest add_up (at costs) (at dearest) (form symbols (e - i) e)
  pub known : 0 < n
  pub most : n ≤ no_bound + i

module _ (symbols costs : List ℕ) (a e : ℕ) (dearest : List ℕ) (ok : Summable symbols costs a e dearest) where
  abbrev total : ℕ → ℕ
  total j = form_dearest add_up (at costs) (at dearest) (form symbols j e)

  pub sum_start : Summed symbols costs a e dearest 0 1
  sum_start = record { high = omega (arith, ok.pricing.rise); is = rw (form_done symbols (e - 0) e (omega arith) (omega arith)); known = omega arith; most = omega arith }

  -- one symbol more in front
  in_front : (j : ℕ) → j < e → total j ≡ add_up (part_of costs dearest (at symbols j)) (total (j + 1))
  unfolding part_of
  in_front j l = rw (form_more symbols j e l ok.pricing.fits)

  unknown_front : (d j : ℕ) → j + d < e → total (j + d) ≡ 0 → total j ≡ 0
  unknown_front zero j l z = subst (λ i. total i ≡ 0) (let q : j + 0 ≡ j = omega arith in q) z
  unknown_front (suc d) j l z =
      let rest : total (j + 1) ≡ 0 = unknown_front d (j + 1) (omega arith) (subst (λ i. total i ≡ 0) (let q : j + suc d ≡ j + 1 + d = omega arith in q) z) in
      in_front j (omega arith) ∙ ap (add_up (part_of costs dearest (at symbols j))) rest ∙ unknown_right (part_of costs dearest (at symbols j))

  -- a part is at most no bound
  part_most : (s : ℕ) → part_of costs dearest s ≤ no_bound
  unfolding part_of
  part_most s = go (symbol s)
    where
      go : (x : Sym) → sym_dearest (at costs) (at dearest) x ≤ no_bound
      go (tok t) = omega (arith, ok.byte t)
      go (rul r) = ok.cap r

  module _ (i n : ℕ) (m : Summed symbols costs a e dearest i n) where
    pub sum_end : e ≤ a + i → (r : ℕ) → r ≡ min n no_bound → r ≡ sum_of costs dearest (form symbols a e)
    unfolding sum_of
    sum_end h r q = q ∙ ap (λ z. min z no_bound) (m.is ∙ ap total {x = e - i} {y = a} (omega (arith, m.high)))

    pub sum_most : n ≤ 33554432
    sum_most = omega (arith, m.most, m.high, ok.few, ok.pricing.fits)

    module _ (s : ℕ) (b : Back symbols a e i s) where
      pub sum_priced : SymbolPriced costs dearest s
      sum_priced = rw b.is (ok.pricing.symbol (e - (i + 1)) (omega (arith, b.inside, ok.pricing.fits)))

      module _ (x : ℕ) (ex : x ≡ part_of costs dearest s) where
        from_here : total (e - (i + 1)) ≡ add_up x n
        unfolding part_of
        from_here = rw (back_more symbols a e i s ok.pricing.fits b, ex, m.is)

        pub sum_unknown : x ≡ 0 → 0 ≡ sum_of costs dearest (form symbols a e)
        unfolding sum_of
        sum_unknown z =
            let here : total (e - (i + 1)) ≡ 0 = from_here ∙ ap (λ y. add_up y n) z in
            let all : total a ≡ 0 = unknown_front (e - (i + 1) - a) a (omega (arith, b.inside)) (subst (λ q. total q ≡ 0) (let d : e - (i + 1) ≡ a + (e - (i + 1) - a) = omega (arith, b.inside) in d) here) in
            omega (arith, all)

        pub sum_part : x ≤ 33554432
        sum_part = omega (arith, ex, part_most s)

        pub sum_on : (x ≡ 0 → ⊥) → (to : ℕ) → to ≡ add_up x n → Summed symbols costs a e dearest (i + 1) to
        sum_on z to q =
            record {
              high = omega (arith, b.inside);
              is = q ∙ sym from_here;
              known = omega (arith, q, addup_known x n (omega arith) m.known);
              most = omega (arith, q, m.high, addup_grows x n (no_bound + i) (omega arith) (omega (arith, ex, part_most s)) m.most);
            }
