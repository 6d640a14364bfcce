-- A refusal is told apart from any answer: an exported call's refusal is 0 exactly where the library call answered.
use mathlib.Core.Bool.{Bool, true, false, cond}
use mathlib.Core.List.{List, [], ◌∷◌}
use mathlib.Core.Logic.{inl, inr}
use mathlib.Core.Path.{◌≡◌, refl, sym, subst}
use Prim.Native.Nat.{ℕ, suc, ◌≤◌}
use native.Mathlib.Decide.{dec_lt}
use native.Mathlib.Omega.{arith}
use lib.ListN.{length}
use Rattle.theory.specs.Profile.{Verdict as Judgement, passes, clashes}
use Rattle.grammar.specs.Flat.{Flat}
use Rattle.grammar.specs.Outcome.{Outcome, answers, refused, unless, lowest}
use Rattle.grammar.specs.Refusals.{dues, unless_due}
use Rattle.tables.specs.Append.{Writes}
use Rattle.tables.specs.Call.{Call, Visits, Leaves}
use Rattle.paths.specs.Calls.{Answers}
use Rattle.costs.specs.Query.{Priced}
use Rattle.costs.proofs.Exactly.{kinds}
use Rattle.sentences.specs.Query.{Lends, Sentenced}
use Rattle.sentences.proofs.Exactly.{Fate, none, dear, circular, long, is, fate, said, says_said}
use Rattle.listings.specs.Calls as Listings
use Rattle.listings.specs.Calls.{CountDone, NumberDone}
use Rattle.listings.proofs.Exactly as All
use Rattle.listings.proofs.Exactly.{counts_said, numbers_said}
use Rattle.blocks.specs.Reading.{Lists, Reads}
use Rattle.engine.specs.Follow.{Lent}
use Rattle.profiles.specs.Calls.{Judges}
use Rattle.house.specs.Calls.{Prices, RowWritten}
use Rattle.house.specs.Table.{cheapest_row}
use Rattle.boltmarrow.specs.Exports.{answer_of, verdict_of}

-- a refusal's number is 1 or more
abbrev pub Numbered : {A : Type 0} → Outcome A → Type 0
Numbered (answers x) = Unit {0}
Numbered (refused n) = 1 ≤ n

module _ {A : Type 0} where
  pub unless_numbered : (b : Bool) (n : ℕ) (x : Outcome A) → 1 ≤ n → Numbered x → Numbered (unless b n x)
  unless_numbered true n x l h = l
  unless_numbered false n x l h = h

  lowest_numbered : (ds : List Bool) (n : ℕ) (x : Outcome A) → 1 ≤ n → Numbered x → Numbered (lowest n ds x)
  lowest_numbered [] n x l h = h
  lowest_numbered (d ∷ ds) n x l h = unless_numbered d n (lowest (suc n) ds x) l (lowest_numbered ds (suc n) x (omega arith) h)

  pub due_numbered : (g : Flat) (x : Outcome A) → Numbered x → Numbered (unless_due g x)
  unfolding unless_due
  due_numbered g x h = lowest_numbered (dues g) 1 x (omega arith) h

  answered : {s : Outcome A} (x : A) → s ≡ answers x → Numbered s
  answered x e = subst Numbered (sym e) tt

  refusing : {s : Outcome A} (n : ℕ) → s ≡ refused n → 1 ≤ n → Numbered s
  refusing n e l = subst Numbered (sym e) l

-- a call gives what is due, or what it does
pub call_numbered : {A M : Type 0} {Done : Outcome A → M → Type 0} {before : M} {s : Outcome A} {after : M} → (due : Outcome (Unit {0})) → Numbered due → (Done s after → Numbered s) → Call due Done before s after → Numbered s
call_numbered (answers tt) h k x = k (x.does refl)
call_numbered (refused n) h k x = refusing n (x.refuses n refl) h

-- what each kind of call does
pub leaves_numbered : {M : Type 0} {Left : M → Type 0} {s : Outcome (Unit {0})} {after : M} → Leaves Left s after → Numbered s
leaves_numbered x = answered tt x.done

pub visits_numbered : {M : Type 0} {Became : M → Type 0} {before after : M} {s : Outcome ℕ} → Visits Became before s after → Numbered s
visits_numbered x = answered (cond x.changed 1 0) x.answer

pub path_numbered : {g : Flat} {a b : ℕ} {s : Outcome Bool} {u : Unit {0}} → Answers g a b s u → Numbered s
path_numbered x = answered x.answer x.told

pub priced_numbered : (g : Flat) (r : ℕ) {s : Outcome ℕ} {a : List ℕ} → Priced g r s a → Numbered s
priced_numbered g r x = elim (kinds g r x.cost) [
  | inl h ↦ refusing 12 (x.none h) (omega arith)
  | inr (inl h) ↦ refusing 13 (x.dear h.0 h.1) (omega arith)
  | inr (inr h) ↦ answered h.0 (x.is h.0 h.1 h.2)
]

pub prices_numbered : {r : ℕ} {s : Outcome ℕ} {a : List ℕ} → Prices r s a → Numbered s
prices_numbered x = answered x.least x.answer

pub row_numbered : {out : List ℕ} {s : Outcome ℕ} {a : Lends} → RowWritten out s a → Numbered s
row_numbered {out} x = elim (dec_lt (length out) (length cheapest_row)) [
  | yes l ↦ refusing 15 (x.short l).number (omega arith)
  | no l ↦ let le : length cheapest_row ≤ length out = omega arith in answered (length cheapest_row) (x.is le).number
]

pub sentenced_numbered : (g : Flat) (r : ℕ) (out : List ℕ) {s : Outcome ℕ} {a : Lends} → Sentenced g r out s a → Numbered s
sentenced_numbered g r out x = subst Numbered (sym (says_said x.says (fate g r out x))) (go (fate g r out x))
  where
    go : {c : ℕ → ℕ} (f : Fate g c r out) → Numbered (said f)
    go (none h) = omega arith
    go (dear h) = omega arith
    go (circular n h) = omega arith
    go (long w y h) = omega arith
    go (is w y a b) = tt

pub counted_numbered : (g : Flat) (r : ℕ) {s : Outcome ℕ} {a : Listings.Work} → CountDone g r s a → Numbered s
counted_numbered g r {a = a} x = subst Numbered (sym (counts_said x.counts (All.fate g r a x.final))) (go (All.fate g r a x.final))
  where
    go : {c : ℕ → ℕ} (f : All.Fate g c r) → Numbered (All.said f)
    go (All.none h) = omega arith
    go (All.dear h) = omega arith
    go (All.circular y) = omega arith
    go (All.many l h) = omega arith
    go (All.is l h) = tt

pub number_numbered : (g : Flat) (r k : ℕ) (out : List ℕ) {s : Outcome ℕ} {a : Listings.Lends} → NumberDone g r k out s a → Numbered s
number_numbered g r k out {a = a} x =
    let f = All.row g _ r k out (All.fate g r a.tables x.final) in
    subst Numbered (sym (numbers_said x.numbers f)) (go f)
  where
    go : {c : ℕ → ℕ} (f : All.Row g c r k out) → Numbered (All.row_said f)
    go (All.row_none h) = omega arith
    go (All.row_dear h) = omega arith
    go (All.row_circular y) = omega arith
    go (All.row_past l h) = omega arith
    go (All.row_long l h m t) = omega arith
    go (All.row_is l h m a b) = tt

pub writes_numbered : {w out to : List ℕ} {s : Outcome ℕ} → Writes w out s to → Numbered s
writes_numbered x = answered _ x.counts

pub reads_numbered : {file : List ℕ} {before after : Lists} {s : Outcome _} → Reads file before s after → Numbered s
reads_numbered x = subst Numbered (sym x.answer) (due_numbered _ _ tt)

pub judges_numbered : {g : Flat} {s : Outcome Judgement} {a : Lent} → Judges g s a → Numbered s
judges_numbered x = answered x.verdict x.answer

-- so refusal 0 is an answer, and the value is its number
pub told : (o : Outcome ℕ) → Numbered o → (answer_of o).refusal ≡ 0 → o ≡ answers (answer_of o).value
told (answers n) h e = refl
told (refused n) h e = absurd (omega (arith, e))

-- and of a verdict too: clash tells which, and the numbers are its own
pub judged_passes : (o : Outcome Judgement) → Numbered o → (verdict_of o).refusal ≡ 0 → (verdict_of o).clash ≡ 0 → o ≡ answers passes
judged_passes (answers passes) h e k = refl
judged_passes (answers (clashes r p q t)) h e k = absurd (omega (arith, k))
judged_passes (refused n) h e k = absurd (omega (arith, e))

pub judged_clashes : (o : Outcome Judgement) → Numbered o → (verdict_of o).refusal ≡ 0 → (verdict_of o).clash ≡ 1 → o ≡ answers (clashes (verdict_of o).rule (verdict_of o).lower (verdict_of o).higher (verdict_of o).token)
judged_clashes (answers passes) h e k = absurd (omega (arith, k))
judged_clashes (answers (clashes r p q t)) h e k = refl
judged_clashes (refused n) h e k = absurd (omega (arith, e))
