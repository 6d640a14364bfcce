-- From the defined tables, the line of a rule says what document 01 defines.
use mathlib.Core.Bool.{true}
use mathlib.Core.List.{List, Memᴰ}
use mathlib.Core.Logic.{◌↔◌}
use mathlib.Core.Path.{◌≡◌, refl, sym, ap, ◌∙◌, subst}
use Prim.Native.Nat.{ℕ, ◌≤◌, ◌<◌}
use native.Mathlib.Omega.{arith}
use lib.ListN.{length}
use Rattle.theory.specs.Definitions.{First, Empty, Productive, Cost}
use Rattle.theory.specs.Follow.{Follow}
use Rattle.theory.proofs.Cost.{cost_one, cost_twelve, cost_thirteen}
use Rattle.grammar.specs.Flat.{Flat, at, denoted, price}
use Rattle.rows.specs.Marks.{mark}
use Rattle.rows.specs.Tables.{view}
use Rattle.rows.proofs.Tables.{view_mark, view_inside}
use Rattle.rows.proofs.Row.{row_mark}
use Rattle.tables.specs.Sizes.{words}
use Rattle.engine.specs.First.{marks_of, lent as firsts}
use Rattle.engine.specs.Follow.{reads, lent}
use Rattle.engine.proofs.Summing.{entry}
use Rattle.follows.specs.Calls.{Tables as FollowTables}
use Rattle.costs.specs.Defined.{CostDefined}
use Rattle.lines.specs.Text.{members}
use Rattle.lines.specs.Line.{amount, none, dear, price_of}
use Rattle.lines.specs.Lent.{Tables, tables, entry_of}
use Rattle.lines.specs.Says.{Defined, AllDear, Says}
use Rattle.lines.proofs.Price.{price_amount, price_dear, price_none, amount_told, none_told, dear_told}
use Rattle.lines.proofs.Members.{passes, held, members_rise}

-- the marks of row r, as the numbers below T that pass
module _ (R T W : ℕ) (ws : List ℕ) (r : ℕ) (lr : r < R) where
  pub row_holds : (t : ℕ) → view R T W ws r t ≡ true → Memᴰ t (members T (mark W ws r))
  row_holds t e = let lt = (view_inside R T W ws r t e).1 in held (mark W ws r) T t lt (sym (view_mark R T W ws r t lr lt) ∙ e)

  pub row_held : (t : ℕ) → Memᴰ t (members T (mark W ws r)) → view R T W ws r t ≡ true
  row_held t m = let h = passes (mark W ws r) T t m in view_mark R T W ws r t lr h.0 ∙ h.1

module _ (g : Flat) (l : Tables) (d : Defined g l) (r : ℕ) (lr : r < g.rules) where
  abbrev R : ℕ
  R = g.rules

  abbrev T : ℕ
  T = length g.costs

  -- the rule's entry in COST
  abbrev n : ℕ
  n = at l.cost r

  costs_it : Cost (denoted g) (price g) r n
  costs_it = subst (λ k. Cost (denoted g) (price g) r k) (entry l.cost r (omega (arith, d.cost.long))) (d.cost.exact r)

  empties : Empty (denoted g) r ↔ (mark (words R) l.empty 0 r ≡ true)
  unfolding marks_of
  empties = let x = d.read.exact.empty r in (λ h. sym (row_mark R (words R) l.empty r lr) ∙ x.0 h, λ e. x.1 (row_mark R (words R) l.empty r lr ∙ e))

  firsts_are : (t : ℕ) → First (denoted g) r t ↔ Memᴰ t (members T (mark (words T) l.first r))
  unfolding marks_of
  firsts_are t = let x = d.read.exact.first r t in (λ h. row_holds R T (words T) l.first r lr t (x.0 h), λ m. x.1 (row_held R T (words T) l.first r lr t m))

  follows_are : (t : ℕ) → Follow (denoted g) r t ↔ Memᴰ t (members T (mark (words T) l.follow r))
  follows_are t = let x = d.follow.exact r t in (λ h. row_holds R T (words T) l.follow r lr t (x.0 h), λ m. x.1 (row_held R T (words T) l.follow r lr t m))

  amounts : (m : ℕ) → ((m ≤ 65535) × Cost (denoted g) (price g) r m) ↔ (price_of n ≡ amount m)
  amounts m = (
    λ h. let q : n ≡ m = cost_one costs_it h.1 in price_amount n (omega (arith, h.0)) ∙ ap amount q,
    λ e. let h = amount_told n m e in (let z : m ≤ 65535 = omega (arith, h.0, h.1) in z, subst (λ k. Cost (denoted g) (price g) r k) h.1 costs_it),
  )

  nones : (Productive (denoted g) r → ⊥) ↔ (price_of n ≡ none)
  nones = (
    λ h. let e = (cost_twelve costs_it).1 h in price_none n (omega arith) (omega arith),
    λ e h. omega (arith, none_told n e, costs_it.least h.0 h.1),
  )

  all_dear : (Productive (denoted g) r × AllDear g r) ↔ (price_of n ≡ dear)
  all_dear = (
    λ h. let e = (cost_thirteen costs_it).1 h in price_dear n (omega arith) (omega arith),
    λ e. (cost_thirteen costs_it).0 (dear_told n e),
  )

  -- the theorem
  pub line_says : Says g r (entry_of R T r l)
  line_says = record {
    number = refl;
    empty = empties;
    first = firsts_are;
    first_rises = members_rise (mark (words T) l.first r) T;
    follow = follows_are;
    follow_rises = members_rise (mark (words T) l.follow r) T;
    is_amount = amounts;
    is_none = nones;
    is_dear = all_dear;
  }

-- the tables that the fills leave
pub fills_define : (g : Flat) (empty first follow reached cost : List ℕ) → FollowTables g (lent follow (reads (firsts first empty) reached)) → CostDefined g cost → Defined g (tables empty first follow cost)
fills_define g empty first follow reached cost f c = record {
  read = f.read.firsts;
  follow = f.follow;
  cost = c;
}
