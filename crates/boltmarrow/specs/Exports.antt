-- What an exported call answers: the library call's answer, as a struct of a refusal and a value.
use Rattle.std.specs.Prelude.{Bool, cond, List, ◌≡◌, ℕ, length, Result, Ok, Err, Option}
use Rattle.theory.specs.Profile.{Verdict as Judgement, passes, clashes}
use Rattle.grammar.specs.Flat.{Flat, at}
use Rattle.grammar.specs.Lent.{outcome_of}
use Rattle.grammar.specs.Number.{number_of}
use Rattle.grammar.specs.Outcome.{Outcome, answers, refused}
use Rattle.grammar.specs.Production.{production_of}
use Rattle.grammar.specs.declared.refusal.Refusal.{Refusal}
use Rattle.blocks.specs.declared.Counts.{Counts as Sizes}
use Rattle.profiles.specs.Calls.{verdict_is}
use Rattle.profiles.specs.declared.Clash.{Clash}
use Rattle.boltmarrow.specs.declared.Answer.{Answer}
use Rattle.boltmarrow.specs.declared.Counts.{Counts}
use Rattle.boltmarrow.specs.declared.Stretch.{Stretch}
use Rattle.boltmarrow.specs.declared.Verdict.{Verdict}

abbrev pub answered_with : ℕ → Answer
answered_with n = record { refusal = 0; value = n }

abbrev pub refused_with : ℕ → Answer
refused_with n = record { refusal = n; value = 0 }

-- refusal 0: answered; a refusal's number, and value 0 beside it
abbrev pub answer_of : Outcome ℕ → Answer
answer_of (answers n) = answered_with n
answer_of (refused n) = refused_with n

-- 1 for yes, 0 for no
abbrev pub yes_of : Bool → ℕ
yes_of b = cond b 1 0

-- the value is what `number` makes of the answer
abbrev pub answer_by : {A : Type 0} → (A → ℕ) → Result A Refusal → Answer
answer_by number (Ok x) = answer_of (answers (number x))
answer_by number (Err e) = answer_of (refused (number_of e))

-- the value: 0 for done
abbrev pub done_answer : Result (Unit {0}) Refusal → Answer
done_answer = answer_by (λ u. 0)

-- 1 or 0 for yes or no, and for changed or same
abbrev pub test_answer : Result Bool Refusal → Answer
test_answer = answer_by yes_of

-- else the number
abbrev pub number_answer : Result ℕ Refusal → Answer
number_answer = answer_by (λ n. n)

-- an answer that the library call's promise allows, as the struct
pub record Says {A B : Type 0} (Promise : A → Type 0) (shows : A → B) (x : B) : Type 0 where
  pub said : A
  pub promise : Promise said
  pub shown : x ≡ shows said

-- a production's stretch: where it starts in the symbol list, and its length; all 0 beside a refusal
abbrev pub stretch_at : ℕ → Outcome (List ℕ) → Stretch
stretch_at from (answers xs) = record { refusal = 0; from = from; len = length xs }
stretch_at from (refused n) = record { refusal = n; from = 0; len = 0 }

abbrev pub stretch_of : Flat → ℕ → Stretch
stretch_of g p = stretch_at (at g.starts p) (production_of g p)

-- the counts that were read; all 0 beside a refusal
abbrev pub counts_of : Outcome Sizes → Counts
counts_of (answers c) = record { refusal = 0; rules = c.rules; tokens = c.tokens; prods = c.prods; symbols = c.symbols; version = c.version }
counts_of (refused n) = record { refusal = n; rules = 0; tokens = 0; prods = 0; symbols = 0; version = 0 }

abbrev pub counts_answer : Result Sizes Refusal → Counts
counts_answer r = counts_of (outcome_of r)

-- the verdict: clash 0 where the grammar passes, 1 and the least clash's numbers where it does not; all 0 beside a pass and a refusal
abbrev pub verdict_of : Outcome Judgement → Verdict
verdict_of (answers passes) = record { refusal = 0; clash = 0; rule = 0; lower = 0; higher = 0; token = 0 }
verdict_of (answers (clashes r p q t)) = record { refusal = 0; clash = 1; rule = r; lower = p; higher = q; token = t }
verdict_of (refused n) = record { refusal = n; clash = 0; rule = 0; lower = 0; higher = 0; token = 0 }

abbrev pub verdict_answer : Result (Option Clash) Refusal → Verdict
verdict_answer v = verdict_of (verdict_is v)
