-- Slices of one job one after another, on one grammar, with refused calls between; and what a done job has left.
use Rattle.grammar.specs.declared.refusal.Refusal.{Refusal}
use Rattle.std.specs.Prelude.{Result}
use Rattle.std.specs.Prelude.{true, ◌≡◌, ℕ, ◌+◌, ◌*◌, ◌≤◌, length}
use Rattle.theory.specs.Tables.{FirstTrue, FollowTrue, ProductiveTrue, CostTrue}
use Rattle.theory.specs.Slices.{Progress, fresh}
use Rattle.grammar.specs.Flat.{Flat, denoted, price}
use Rattle.grammar.specs.Outcome.{answers, refused}
use Rattle.engine.specs.First.{lent as firsts, marks_of}
use Rattle.engine.specs.Follow.{table_of}
use Rattle.engine.specs.Productive.{row_of}
use Rattle.engine.specs.Cost.{costs_of}
use Rattle.firsts.specs.Calls.{Defined as FirstDefined, zeros as first_zeros}
use Rattle.follows.specs.Calls.{Defined as FollowDefined, Finished, begun}
use Rattle.costs.specs.Calls.{zeros as row_zeros, unknown}
use Rattle.costs.specs.Defined.{ProductiveDefined, CostDefined}
use Rattle.jobs.specs.declared.Job.{Job}
use Rattle.jobs.specs.Kinds.{Tables, Kind, first, follow, productive, cost}
use Rattle.jobs.specs.Calls.{job_at, slice_due, SliceOf}

-- a fresh job of a kind: next 0, no change, not done
abbrev pub fresh_job : ℕ → Job
fresh_job kind = job_at kind fresh

-- the kind's tables are cleared, and FOLLOW reads finished ones
abbrev pub Cleared : Kind → Flat → Tables → Type 0
Cleared first g t = firsts t.first t.empty ≡ first_zeros g
Cleared (follow read) g t = Finished g read × (t.follow ≡ begun g)
Cleared productive g t = t.productive ≡ row_zeros g
Cleared cost g t = t.cost ≡ unknown g

-- the kind's tables are what its fill leaves
abbrev pub Defined : Kind → Flat → Tables → Type 0
Defined first g t = FirstDefined g (firsts t.first t.empty)
Defined (follow read) g t = FollowDefined g t.follow
Defined productive g t = ProductiveDefined g t.productive
Defined cost g t = CostDefined g t.cost

-- what the kind's tables hold is true: each mark, and each cost is some sentence's
abbrev pub True : Kind → Flat → Tables → Type 0
True first g t = FirstTrue (denoted g) (marks_of g.rules (length g.costs) (firsts t.first t.empty))
True (follow read) g t = FollowTrue (denoted g) (table_of g.rules (length g.costs) t.follow)
True productive g t = ProductiveTrue (denoted g) (row_of g.rules t.productive)
True cost g t = CostTrue (denoted g) (price g) (costs_of t.cost)

-- demand 3's number of rounds, and R for PRODUCTIVE
abbrev pub bound : Kind → Flat → ℕ
bound first g = g.rules * length g.costs
bound (follow read) g = g.rules * length g.costs
bound productive g = g.rules
bound cost g = g.rules

-- slices on grammar g, whose lengths add up to n, with refused calls between, whatever these ask
pub data Run (g : Flat) : ℕ → Job → Tables → Job → Tables → Type 0 where
  none : {j : Job} {t : Tables} → Run g 0 j t j t
  slice : {m s : ℕ} {j i k : Job} {a b d : Tables} (n : ℕ) (r : Result ℕ Refusal) → m ≡ n + s → slice_due g j a ≡ answers tt → SliceOf g n j a r i b → Run g s i b k d → Run g m j a k d
  between : {s : ℕ} {j i k : Job} {a b d : Tables} (h : Flat) (n m : ℕ) (r : Result ℕ Refusal) → slice_due h j a ≡ refused m → SliceOf h n j a r i b → Run g s i b k d → Run g s j a k d

-- what slices whose lengths add up to n have come to, by the progress that is left
pub record Comes (k : Kind) (g : Flat) (n : ℕ) (i : Progress) (t : Tables) : Type 0 where
  -- a done job has left the fill's tables
  pub left : i.done ≡ true → Defined k g t
  -- after one round more than demand 3's number the job is done
  pub ends : (bound k g + 1) * length g.owners ≤ n → i.done ≡ true
  -- at every moment what is held is true
  pub always : True k g t
