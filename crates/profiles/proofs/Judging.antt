-- The verdict: the least rule and lower production, the first higher one, the least token that they share.
use mathlib.Core.Bool.{Bool, true, false, ◌&&◌, true≢false}
use mathlib.Core.List.{List}
use mathlib.Core.Path.{◌≡◌, refl, sym, ◌∙◌, subst}
use Prim.Native.Nat.{ℕ, suc, ◌≤◌, ◌<◌}
use native.Mathlib.Decide.{ℕ_discrete}
use native.Mathlib.Omega.{arith}
use lib.Dec.{eqb, ltb}
use lib.ListN.{length}
use borrow.Author.Tests.{lt-ltb}
use Rattle.theory.specs.Below.{some, FirstBelow}
use Rattle.theory.specs.Clashes.{shares_of, pair_of}
use Rattle.theory.specs.Profile.{passes, clashes}
use Rattle.theory.specs.Visits.{Table, Marks}
use Rattle.theory.proofs.Below.{some_found, first_at, scan_true}
use Rattle.theory.proofs.Bools.{and_split}
use Rattle.theory.proofs.Clashes.{lowest_passes, lowest_rule, lowest_low}
use Rattle.theory.proofs.Profile.{none_passes, found_least}
use Rattle.grammar.specs.Flat.{Flat, denoted}
use Rattle.grammar.proofs.Denoted.{proper}
use Rattle.engine.specs.First.{Lent as Firsts}
use Rattle.std.specs.Prelude.{None, Some}
use Rattle.profiles.specs.Calls.{Judgeable, Clashing, Judging}
use Rattle.profiles.specs.Rows.{Readable, Rowable, marks_in, follow_in, LeastIs, LeastShared}
use Rattle.profiles.specs.declared.inner.Low.{Low}

-- a scan below n, where one number more may pass too
scan_last : (f : ℕ → Bool) (n x : ℕ) → some (suc n) f ≡ true → x ≤ n → FirstBelow f n (ltb x n) x → FirstBelow f (suc n) true x
scan_last f n x e le b = first_at f (suc n) x (omega arith) (there (ltb x n) refl b) (before (ltb x n) b)
  where
    before : (has : Bool) → FirstBelow f n has x → (i : ℕ) → i < x → f i ≡ false
    before true k i l = k.first refl i l
    before false k i l = k.none refl i (omega arith)

    there : (has : Bool) → ltb x n ≡ has → FirstBelow f n has x → f x ≡ true
    there true z k = k.passes refl
    there false z k =
        let s = some_found f (suc n) e in
        elim (ℕ_discrete s.0 n) [
          | yes q ↦ subst (λ y. f y ≡ true) (q ∙ end z) s.2
          | no q ↦ absurd (true≢false (sym s.2 ∙ k.none refl s.0 (omega (arith, s.1))))
        ]
      where
        end : ltb x n ≡ false → n ≡ x
        end z = elim (ℕ_discrete n x) [ yes q ↦ q | no q ↦ absurd (true≢false (sym (lt-ltb x n (omega arith)) ∙ z)) ]

module _ (g : Flat) (read : Firsts) (follow : List ℕ) where
  abbrev m : Marks
  m = marks_in g read

  abbrev f : Table
  f = follow_in g follow

  pub judge_reads : Judgeable g read follow → Readable g read follow
  judge_reads ok = record { well = ok.well; held = ok.first_is.held; follows = ok.follow_is.held }

  -- `judge`
  module _ (ok : Judgeable g read follow) where
    pub judge_passes : LeastIs g read follow 0 None → Judging g None
    judge_passes least = record {
      verdict = passes;
      answer = refl;
      judged = none_passes (denoted g) (proper g ok.well) m ok.first_is.exact f ok.follow_is.exact g.rules (lowest_passes (denoted g) m f g.rules 0 least.lowest (omega arith));
    }

    pub judge_clashes : (low : Low) → LeastIs g read follow 0 (Some low) → Clashing g read follow low.rule low.lower
    judge_clashes low least = record { judges = ok; is_rule = least.is_rule; low = least.lowest }

  -- `clash`
  module _ (rule lower : ℕ) (ok : Clashing g read follow rule lower) where
    pub rule_fits : rule < 512
    rule_fits = omega (arith, ok.is_rule, ok.judges.well.sizes.rules_high)

    pub lower_rows : Rowable g read follow lower
    lower_rows = record { reads = judge_reads ok.judges; is_prod = ok.low.is_prod ok.is_rule }

    pub lower_fits : lower < 4096
    lower_fits = omega (arith, ok.low.is_prod ok.is_rule, ok.judges.well.sizes.prods_high)

    module _ (q : ℕ) (hq : FirstBelow (pair_of (denoted g) m f lower) (length g.owners) (ltb q (length g.owners)) q) where
      high : FirstBelow (pair_of (denoted g) m f lower) (length g.owners) true q
      high = scan_true (pair_of (denoted g) m f lower) (length g.owners) q (and_split (eqb ((denoted g).owner lower) rule) _ (ok.low.is_low ok.is_rule)).1 hq

      pub higher_rows : Rowable g read follow q
      higher_rows = record { reads = judge_reads ok.judges; is_prod = high.below refl }

      pub higher_fits : q < 4096
      higher_fits = omega (arith, high.below refl, ok.judges.well.sizes.prods_high)

      module _ (t : ℕ) (ht : LeastShared g read follow lower q t) where
        token : FirstBelow (shares_of (denoted g) m f lower q) (suc (length g.costs)) true t
        token = scan_last (shares_of (denoted g) m f lower q) (length g.costs) t (and_split (ltb lower q && eqb ((denoted g).owner q) ((denoted g).owner lower)) _ (high.passes refl)).1 ht.upto ht.first

        pub token_fits : t ≤ 512
        token_fits = omega (arith, ht.upto, ok.judges.well.sizes.tokens_high)

        pub clash_is : Judging g (Some (record { rule = record { 0 = rule }; lower = record { 0 = lower }; higher = record { 0 = q }; token = record { 0 = t } }))
        clash_is = record {
          verdict = clashes rule lower q t;
          answer = refl;
          judged = found_least (denoted g) (proper g ok.judges.well) m ok.judges.first_is.exact f ok.judges.follow_is.exact rule lower q t
              (record { rule = lowest_rule (denoted g) m f rule lower ok.low ok.is_rule; low = lowest_low (denoted g) m f rule lower ok.low ok.is_rule; high = high; token = token });
        }
