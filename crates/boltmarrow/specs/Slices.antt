-- A slice as C sees it: the job as a record of numbers, the answer as a struct of a refusal and a value.
use Rattle.grammar.specs.declared.refusal.Refusal.{Refusal}
use Rattle.std.specs.Prelude.{Result, Ok, Err, Bool, not, cond, ◌≡◌, ℕ, eqb}
use Rattle.grammar.specs.Flat.{Flat}
use Rattle.jobs.specs.declared.Job.{Job as Inner}
use Rattle.jobs.specs.Kinds.{Tables}
use Rattle.jobs.specs.Calls.{SliceOf}
use Rattle.boltmarrow.specs.declared.Job.{Job}
use Rattle.boltmarrow.specs.declared.Answer.{Answer}
use Rattle.boltmarrow.specs.Exports.{number_answer, yes_of}

-- 0 is no, any other number yes; a yes that is written is 1, as `yes_of` has it
abbrev pub is_yes : ℕ → Bool
is_yes n = not (eqb n 0)

-- the job that the record is
abbrev pub job_of : Job → Inner
job_of j = record { kind = j.kind; next = record { 0 = j.next }; changed = is_yes j.changed; done = is_yes j.done }

-- the record of a job
abbrev pub record_of : Inner → Job
record_of i = record { kind = i.kind; next = i.next.0; changed = yes_of i.changed; done = yes_of i.done }

-- what is left of the record: a refusal and a slice without a visit leave it as it was
abbrev pub job_left : Job → Inner → Result ℕ Refusal → Job
job_left j i (Ok made) = cond (eqb made 0) j (record_of i)
job_left j i (Err e) = j

-- an answer and a job that the library call's promise allows, as C sees them
pub record SliceSays (g : Flat) (n : ℕ) (j : Job) (t : Tables) (r : Answer) (j' : Job) (t' : Tables) : Type 0 where
  pub said : Result ℕ Refusal
  pub after : Inner
  pub promise : SliceOf g n (job_of j) t said after t'
  pub shown : r ≡ number_answer said
  pub kept : j' ≡ job_left j after said
