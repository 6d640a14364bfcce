-- Rounds of the dearest costs: how far each can still rise, and that 2R of them are enough.
use mathlib.Core.Bool.{Bool, true, false, cond}
use mathlib.Core.List.{List}
use mathlib.Core.Logic.{◌⊎◌, inl, inr}
use mathlib.Core.Path.{◌≡◌, refl, sym, ◌∙◌, ap, fun_ext}
use Prim.Native.Nat.{ℕ, ◌*◌, ◌≤◌, ◌<◌, min}
use native.Mathlib.Decide.{dec_lt}
use native.Mathlib.Omega.{arith}
use lib.Dec.{leb}
use lib.ListN.{length}
use borrow.Author.Tests.{leb-true, le-leb, lt-leb}
use Rattle.theory.specs.Grammar.{Grammar}
use Rattle.theory.specs.Visits.{Costs}
use Rattle.theory.specs.Rounds.{run, AllRounds, rounds}
use Rattle.theory.specs.Tables.{Proper}
use Rattle.theory.specs.Dearest.{Dearest}
use Rattle.theory.specs.DearestVisits.{no_bound, add_up, form_dearest, dearest_visit, dearest_cleared, ends_as}
use Rattle.theory.proofs.Rounds.{rounds_keeps, joined, joined_valid, rounds_run, Climb, climb_ascent, rounds_done}
use Rattle.theory.proofs.Count.{sum, sum_le, sum_grows, count_up, count_upto, count_mono}
use Rattle.theory.proofs.Dearest.{Limits, dearest_cases, dearest_up, dearest_run_up, dearest_exact}
use Rattle.theory.specs.Below.{count}

-- how many entries are `no_bound`
abbrev pub boundless : Grammar → Costs → ℕ
boundless g c = count g.rules (λ r. leb no_bound (c r))

-- entries are at most `no_bound`, and none is known outside the rules
pub record Risen (R : ℕ) (c : Costs) : Type 0 where
  pub cap : (r : ℕ) → c r ≤ no_bound
  pub out : (r : ℕ) → R ≤ r → c r ≡ 0

module _ (g : Grammar) (k : ℕ → ℕ) (ok : Proper g) where
  pub cleared_risen : Risen g.rules dearest_cleared
  cleared_risen = record { cap = λ r. omega arith; out = λ r l. refl }

  new_entry : (beyond : Bool) (s : ℕ) → s ≤ no_bound → cond beyond no_bound s ≤ no_bound
  new_entry true s l = omega arith
  new_entry false s l = l

  pub risen_kept : (beyond : Bool) (p : ℕ) → p < g.prods → (c : Costs) → Risen g.rules c → Risen g.rules (dearest_visit g k beyond p c)
  risen_kept beyond p lt c i = record {
    cap = λ r. elim (dearest_cases g k beyond p c r) [
      | inl e ↦ omega (arith, e.2, new_entry beyond (min (form_dearest add_up k c (g.body p)) no_bound) (omega arith))
      | inr e ↦ omega (arith, e, i.cap r)
    ];
    out = λ r l. elim (dearest_cases g k beyond p c r) [ inl e ↦ absurd (omega (arith, e.0, ok.owner p lt)) | inr e ↦ e ∙ i.out r l ];
  }

  -- each change raises an entry
  each : (beyond : Bool) (p : ℕ) (c : Costs) (r : ℕ) → (dearest_visit g k beyond p c r ≡ c r) ⊎ (c r < dearest_visit g k beyond p c r)
  each beyond p c r = elim (dec_lt (c r) (dearest_visit g k beyond p c r)) [ yes l ↦ inr l | no l ↦ inl (omega (arith, dearest_up g k beyond p c r)) ]

  pub dearest_grows : (beyond : Bool) (p : ℕ) → p < g.prods → (c : Costs) → Risen g.rules c → (dearest_visit g k beyond p c ≡ c) ⊎ (sum g.rules c < sum g.rules (dearest_visit g k beyond p c))
  dearest_grows beyond p lt c i = elim (sum_grows g.rules c (dearest_visit g k beyond p c) (λ r. dearest_visit g k beyond p c r ≡ c r) (λ r q. sym q) (λ r _. each beyond p c r)) [
    | inl q ↦ inl (fun_ext (λ r. elim (dec_lt r g.rules) [ yes l ↦ q r l | no l ↦ (risen_kept beyond p lt c i).out r (omega arith) ∙ sym (i.out r (omega arith)) ]))
    | inr l ↦ inr l
  ]

  unfoldable pub dearest_climb : (beyond : Bool) → Climb (dearest_visit g k beyond) (Risen g.rules) g.prods (g.rules * no_bound)
  dearest_climb beyond = record {
    size = λ c. sum g.rules c;
    kept = risen_kept beyond;
    bound = λ c i. sum_le g.rules no_bound c (λ r lt. i.cap r);
    grows = dearest_grows beyond;
  }

  -- beyond R rounds each change takes an entry to `no_bound`: so R more are enough
  pub beyond_grows : (p : ℕ) → p < g.prods → (c : Costs) → Risen g.rules c → (dearest_visit g k true p c ≡ c) ⊎ (boundless g c < boundless g (dearest_visit g k true p c))
  beyond_grows p lt c i = elim (dearest_cases g k true p c (g.owner p)) [
    | inr e ↦ inl (fun_ext (λ r. elim (dearest_cases g k true p c r) [ inl d ↦ omega (arith, e, ap c d.0, ap (dearest_visit g k true p c) d.0) | inr d ↦ d ]))
    | inl e ↦ inr (count_up g.rules (λ r. leb no_bound (c r)) (λ r. leb no_bound (dearest_visit g k true p c r)) (g.owner p) (ok.owner p lt)
        (lt-leb no_bound (c (g.owner p)) (omega (arith, e.1)))
        (le-leb no_bound (dearest_visit g k true p c (g.owner p)) (omega (arith, e.2)))
        (λ r d. le-leb no_bound (dearest_visit g k true p c r) (omega (arith, leb-true no_bound (c r) d, dearest_up g k true p c r))))
  ]

  unfoldable pub beyond_climb : Climb (dearest_visit g k true) (Risen g.rules) g.prods g.rules
  beyond_climb = record {
    size = boundless g;
    kept = risen_kept true;
    bound = λ c i. count_upto g.rules (λ r. leb no_bound (c r));
    grows = beyond_grows;
  }

-- how many entries are `no_bound` does not fall
pub ends_up : (g : Grammar) (k : ℕ → ℕ) (beyond : Bool) (v : List ℕ) (c : Costs) → boundless g c ≤ boundless g (run (dearest_visit g k beyond) v c)
ends_up g k beyond v c = count_mono g.rules (λ r. leb no_bound (c r)) (λ r. leb no_bound (run (dearest_visit g k beyond) v c r))
    (λ r e. le-leb no_bound (run (dearest_visit g k beyond) v c r) (omega (arith, leb-true no_bound (c r) e, dearest_run_up g k beyond v c r)))

-- R rounds and then R beyond them, each in any order, leave the entries
pub dearest_rounds : (g : Grammar) (k : ℕ → ℕ) → Proper g → Limits g k → (vs us : List (List ℕ)) → AllRounds g.prods vs → AllRounds g.prods us → length vs ≡ g.rules → g.rules ≤ length us
    → (r : ℕ) → Dearest g k r (ends_as (rounds (dearest_visit g k true) us (rounds (dearest_visit g k false) vs dearest_cleared) r))
dearest_rounds g k ok lim vs us rv ru lv lu r =
    let c = rounds (dearest_visit g k false) vs dearest_cleared in
    let i = rounds_keeps (dearest_visit g k false) g.prods (Risen g.rules) (risen_kept g k ok false) vs rv dearest_cleared (cleared_risen g k ok) in
    let e = rounds_run (dearest_visit g k true) us c in
    let st = rounds_done (climb_ascent (beyond_climb g k ok)) us ru lu c i in
    rw e (dearest_exact g k ok lim vs rv lv (joined us) (joined_valid us ru) (rw e at st) r)
