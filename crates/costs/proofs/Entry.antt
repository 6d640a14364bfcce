-- What an entry says of its rule: refusals 12 and 13, or that it is the cost.
use mathlib.Core.Bool.{Bool, true, false, cond}
use mathlib.Core.List.{List}
use mathlib.Core.Path.{◌≡◌, refl, sym, ◌∙◌}
use Prim.Native.Nat.{ℕ, ◌≤◌, ◌<◌}
use native.Mathlib.Omega.{arith}
use lib.Dec.{eqb, leb}
use borrow.Author.Tests.{le-leb, lt-leb, leb-true, eqb-true, eqb-false}
use Rattle.theory.specs.Definitions.{Productive, Sentence, cost_of, Cost}
use Rattle.theory.specs.Grammar.{Grammar}
use Rattle.theory.proofs.Cost.{cost_twelve, cost_thirteen}
use Rattle.grammar.specs.Outcome.{answers, refused}
use Rattle.grammar.proofs.Outcomes.{not_both, refused_one}
use Rattle.costs.specs.Query.{entry_due, entry_refusal}

-- `entry_due`
pub due_cost : (n : ℕ) → n ≤ 65535 → 0 ≡ entry_due n
unfolding entry_due
due_cost n l = rw (le-leb n 65535 l)

pub due_dear : (n : ℕ) → 65535 < n → n ≤ 65536 → 13 ≡ entry_due n
unfolding entry_due
due_dear n l m = rw (lt-leb n 65535 l, le-leb n 65536 m)

pub due_unknown : (n : ℕ) → 65535 < n → 65536 < n → 12 ≡ entry_due n
unfolding entry_due
due_unknown n l m = rw (lt-leb n 65535 l, lt-leb n 65536 m)

-- and what that comes to
pub refusal_cost : (n : ℕ) → n ≤ 65535 → answers tt ≡ entry_refusal n
refusal_cost n l = rw (← due_cost n l) refl

pub refusal_dear : (n : ℕ) → 65535 < n → n ≤ 65536 → refused 13 ≡ entry_refusal n
refusal_dear n l m = rw (← due_dear n l m) refl

pub refusal_unknown : (n : ℕ) → 65535 < n → 65536 < n → refused 12 ≡ entry_refusal n
refusal_unknown n l m = rw (← due_unknown n l m) refl

-- where it refuses, that is due, and where it goes on nothing is
pub refusal_due : (n m : ℕ) → refused m ≡ entry_refusal n → (m ≡ entry_due n) × (m ≡ 0 → ⊥)
refusal_due n m e = go (eqb (entry_due n) 0) refl e
  where
    go : (b : Bool) → eqb (entry_due n) 0 ≡ b → refused m ≡ cond b (answers (tt {0})) (refused (entry_due n)) → (m ≡ entry_due n) × (m ≡ 0 → ⊥)
    go true q f = absurd (not_both (sym f))
    go false q f = let k : m ≡ entry_due n = refused_one f in (k, λ z. eqb-false (entry_due n) 0 q (sym k ∙ z))

pub refusal_none : (n : ℕ) → answers (tt {0}) ≡ entry_refusal n → 0 ≡ entry_due n
refusal_none n e = go (eqb (entry_due n) 0) refl e
  where
    go : (b : Bool) → eqb (entry_due n) 0 ≡ b → answers (tt {0}) ≡ cond b (answers (tt {0})) (refused (entry_due n)) → 0 ≡ entry_due n
    go true q f = sym (eqb-true (entry_due n) 0 q)
    go false q f = absurd (not_both f)

-- none is due of a cost alone
pub due_none : (n : ℕ) → entry_due n ≡ 0 → n ≤ 65535
unfolding entry_due
due_none n e = go (leb n 65535) refl e
  where
    other : (b : Bool) → ◌≡◌ {A = ℕ} (cond b 13 12) 0 → ⊥
    other true q = omega arith
    other false q = omega arith

    go : (b : Bool) → leb n 65535 ≡ b → ◌≡◌ {A = ℕ} (cond b 0 (cond (leb n 65536) 13 12)) 0 → n ≤ 65535
    go true q f = leb-true n 65535 q
    go false q f = absurd (other (leb n 65536) f)

-- of a rule's own entry
module _ {g : Grammar} {k : ℕ → ℕ} {r n : ℕ} (x : Cost g k r n) where
  -- 12 where it has no sentence
  pub due_12 : (Productive g r → ⊥) → entry_due n ≡ 12
  due_12 h = let e = (cost_twelve x).1 h in sym (due_unknown n (omega arith) (omega arith))

  -- 13 where it has one but none costs 65535 or less
  pub due_13 : Productive g r → ((w : List ℕ) → Sentence g r w → 65536 ≤ cost_of k w) → entry_due n ≡ 13
  due_13 h s = let e = (cost_thirteen x).1 (h, s) in sym (due_dear n (omega arith) (omega arith))
