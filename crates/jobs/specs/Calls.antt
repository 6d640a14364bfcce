-- A slice of a job: its refusals in order, and what it makes of the job and of the lent tables.
use Rattle.grammar.specs.declared.refusal.Refusal.{Refusal}
use Rattle.std.specs.Prelude.{Result}
use Rattle.std.specs.Prelude.{Bool, ◌||◌, ◌≡◌, ℕ, ◌<◌, leb, length}
use Rattle.theory.specs.Slices.{Progress, Slice}
use Rattle.grammar.specs.Flat.{Flat}
use Rattle.grammar.specs.Lent.{outcome_of}
use Rattle.grammar.specs.Outcome.{Outcome, answers, unless}
use Rattle.grammar.specs.Refusals.{unless_due}
use Rattle.grammar.specs.Well.{WellFormed}
use Rattle.tables.specs.Call.{Call}
use Rattle.jobs.specs.declared.Job.{Job}
use Rattle.jobs.specs.declared.inner.Stand.{Stand}
use Rattle.jobs.specs.Kinds.{Tables, Kind, kind_of, no_kind, kind_wrong, Held, Visit}

-- where the job stands, and the job of that kind that stands there
abbrev pub progress : (next : ℕ) (changed done : Bool) → Progress
progress next changed done = record { next = next; changed = changed; done = done }

abbrev pub stands : Stand → Progress
stands s = progress s.next s.changed s.done

abbrev pub progress_of : Job → Progress
progress_of j = progress j.next.0 j.changed j.done

abbrev pub job_at : (kind : ℕ) → Progress → Job
job_at kind p = record { kind = kind; next = record { 0 = p.next }; changed = p.changed; done = p.done }

-- 17: the kind is 1 or above 4, or the next production is P or more
abbrev pub job_wrong : (P kind next : ℕ) → Bool
job_wrong P kind next = no_kind kind || leb P next

-- 1 to 6; then 17; then 7 for the kind's tables
abbrev pub slice_due : Flat → Job → Tables → Outcome (Unit {0})
slice_due g j t =
    unless_due g
    (unless (job_wrong (length g.owners) j.kind j.next.0) 17
    (unless (kind_wrong (kind_of j.kind t) g.rules (length g.costs) t) 7 (answers tt)))

-- what is lent
pub record Lends : Type 0 where
  pub job : Job
  pub lent : Tables

abbrev pub lends : Job → Tables → Lends
lends j t = record { job = j; lent = t }

-- the slice was made: the answer is the number of its visits, and the job stands where it left off
pub record Works (g : Flat) (n : ℕ) (j : Job) (t : Tables) (said : Outcome ℕ) (after : Lends) : Type 0 where
  pub made : ℕ
  pub stands : Progress
  pub answer : said ≡ answers made
  pub slice : Slice (Visit (kind_of j.kind t) g) (length g.owners) n (progress_of j) t made stands after.lent
  pub job : after.job ≡ job_at j.kind stands

-- the promise
abbrev pub SliceOf : Flat → (n : ℕ) → Job → Tables → Result ℕ Refusal → Job → Tables → Type 0
SliceOf g n j t r j' t' = Call (slice_due g j t) (Works g n j t) (lends j t) (outcome_of r) (lends j' t')

-- what the loop of visits asks: a well-formed grammar, a next production, the kind's tables of their lengths
pub record Workable (k : Kind) (g : Flat) (next : ℕ) (t : Tables) : Type 0 where
  pub well : WellFormed g
  pub below : next < length g.owners
  pub held : Held k g t
