-- The tables that are lent to a job, and what each kind of job makes of them.
use Rattle.std.specs.Prelude.{Bool, cond, ◌||◌, List, ◌≡◌, ℕ, ◌<◌, eqb, ltb, length, Result, Ok, Err}
use Rattle.grammar.specs.declared.refusal.Refusal.{Refusal}
use Rattle.grammar.specs.Flat.{Flat}
use Rattle.grammar.specs.Number.{number_of}
use Rattle.grammar.specs.Outcome.{Outcome, answers, refused}
use Rattle.grammar.specs.Well.{WellFormed}
use Rattle.rows.specs.Tables.{Sized}
use Rattle.tables.specs.Call.{Stepped}
use Rattle.tables.specs.Sizes.{words, table_wrong, row_wrong, numbers_wrong}
use Rattle.engine.specs.First.{lent as firsts, Held as FirstHeld, FirstBecame}
use Rattle.engine.specs.Follow.{Reads, reads, lent, FollowBecame}
use Rattle.engine.specs.Productive.{ProductiveBecame}
use Rattle.engine.specs.Cost.{CostBecame}
use Rattle.follows.specs.Calls.{lent_wrong}
use Rattle.jobs.specs.declared.kind.Kind.{Kind as Named}
use Rattle.jobs.specs.declared.kind.Kind.TheVariants.{First, Follow, Productive, Cost}

-- all that is lent; which of them are due the kind says. The reached row is only read
pub record Tables : Type 0 where
  pub first : List ℕ
  pub empty : List ℕ
  pub follow : List ℕ
  pub productive : List ℕ
  pub cost : List ℕ
  pub reached : List ℕ

-- the six together
abbrev pub tables : (first empty follow productive cost reached : List ℕ) → Tables
tables first empty follow productive cost reached = record { first = first; empty = empty; follow = follow; productive = productive; cost = cost; reached = reached }

-- what FOLLOW's visits read of them
abbrev pub read_of : Tables → Reads
read_of t = reads (firsts t.first t.empty) t.reached

-- FOLLOW has what its visits read
pub data Kind : Type 0 where
  first : Kind
  follow : Reads → Kind
  productive cost : Kind

-- 0 FIRST, 2 FOLLOW, 3 PRODUCTIVE, 4 COST; 1 is no kind
abbrev pub kind_of : ℕ → Tables → Kind
kind_of n t = cond (eqb n 0) first (cond (eqb n 2) (follow (read_of t)) (cond (eqb n 3) productive cost))

-- the number of a named kind
abbrev pub kind_number : Named → ℕ
kind_number First = 0
kind_number Follow = 2
kind_number Productive = 3
kind_number Cost = 4

-- no kind has this number
abbrev pub no_kind : ℕ → Bool
no_kind n = eqb n 1 || ltb 4 n

-- what a number was read as: a kind, by its number again, or a refusal
abbrev pub kind_read : Result Named Refusal → Outcome ℕ
kind_read (Ok k) = answers (kind_number k)
kind_read (Err e) = refused (number_of e)

-- 7: a table of the kind is not of its exact length; the others are not looked at
abbrev pub kind_wrong : Kind → (R T : ℕ) → Tables → Bool
kind_wrong first R T t = table_wrong R T t.first || row_wrong R t.empty
kind_wrong (follow read) R T t = lent_wrong R T (lent t.follow (read_of t))
kind_wrong productive R T t = row_wrong R t.productive
kind_wrong cost R T t = numbers_wrong R t.cost

-- what FOLLOW's visits read is of its exact lengths, and so is FOLLOW
pub record FollowHeld (g : Flat) (read : Reads) (follow : List ℕ) : Type 0 where
  pub firsts : FirstHeld g.rules (length g.costs) read.firsts
  pub reached : length read.reached ≡ words g.rules
  pub follows : Sized g.rules (words (length g.costs)) follow

-- the tables of the kind are of their exact lengths
abbrev pub Held : Kind → Flat → Tables → Type 0
Held first g t = FirstHeld g.rules (length g.costs) (firsts t.first t.empty)
Held (follow read) g t = FollowHeld g read t.follow
Held productive g t = Sized 1 (words g.rules) t.productive
Held cost g t = length t.cost ≡ g.rules

-- a step was made, and nothing else was written
pub record Made (Step : Type 0) (after to : Tables) : Type 0 where
  pub step : Step
  pub others : after ≡ to

-- production p's step of the kind, as its visit makes it
abbrev pub Became : Kind → Flat → ℕ → Tables → Tables → Type 0
Became first g p a b = Made (FirstBecame g p (firsts a.first a.empty) (firsts b.first b.empty)) b (tables b.first b.empty a.follow a.productive a.cost a.reached)
Became (follow read) g p a b = Made (FollowBecame g read p a.follow b.follow) b (tables a.first a.empty b.follow a.productive a.cost a.reached)
Became productive g p a b = Made (ProductiveBecame g p a.productive b.productive) b (tables a.first a.empty a.follow b.productive a.cost a.reached)
Became cost g p a b = Made (CostBecame g p a.cost b.cost) b (tables a.first a.empty a.follow a.productive b.cost a.reached)

-- production p's visit, and whether it changed anything
abbrev pub Visit : Kind → Flat → ℕ → Tables → Bool → Tables → Type 0
Visit k g p a x b = Stepped (Became k g p a) a x b

-- what a step asks: a well-formed grammar, one of its productions, the kind's tables of their lengths
pub record Ready (k : Kind) (g : Flat) (p : ℕ) (t : Tables) : Type 0 where
  pub well : WellFormed g
  pub is_prod : p < length g.owners
  pub held : Held k g t
