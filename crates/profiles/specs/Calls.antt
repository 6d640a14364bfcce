-- The public call: the verdict, with its refusals in order.
use Rattle.std.specs.Prelude.{Result, Ok, Err, Option, None, Some, List, ◌≡◌, ℕ, ◌<◌, length}
use Rattle.theory.specs.Profile.{Verdict, passes, clashes, Judged}
use Rattle.grammar.specs.Flat.{Flat, denoted}
use Rattle.grammar.specs.Number.{number_of}
use Rattle.grammar.specs.declared.refusal.Refusal.{Refusal}
use Rattle.grammar.specs.Outcome.{Outcome, answers, refused, unless}
use Rattle.grammar.specs.Refusals.{unless_due}
use Rattle.grammar.specs.Well.{WellFormed}
use Rattle.tables.specs.Call.{Call}
use Rattle.firsts.specs.Calls.{Defined as FirstDefined}
use Rattle.engine.specs.First.{Lent as Firsts, lent as firsts}
use Rattle.engine.specs.Follow.{Lent, lent, reads}
use Rattle.follows.specs.Calls.{lent_wrong, Defined, Tables}
use Rattle.profiles.specs.declared.Clash.{Clash}
use Rattle.profiles.specs.Rows.{LowestIs}

-- the verdict: it passes, or has this least clash
abbrev pub verdict_of : Option Clash → Verdict
verdict_of None = passes
verdict_of (Some c) = clashes c.rule.0 c.lower.0 c.higher.0 c.token.0

-- what the call comes to: the verdict, or the refusal
abbrev pub verdict_is : Result (Option Clash) Refusal → Outcome Verdict
verdict_is (Ok r) = answers (verdict_of r)
verdict_is (Err e) = refused (number_of e)

-- 1 to 6, and 7 for any of the four tables
abbrev pub profile_due : Flat → Lent → Outcome (Unit {0})
profile_due g l = unless_due g (unless (lent_wrong g.rules (length g.costs) l) 7 (answers tt))

-- the call answers the grammar's verdict, and leaves FOLLOW, FIRST, EMPTY and the reached row, for any earlier contents
pub record Judges (g : Flat) (said : Outcome Verdict) (to : Lent) : Type 0 where
  pub verdict : Verdict
  pub answer : said ≡ answers verdict
  pub judged : Judged (denoted g) verdict
  pub tables : Tables g to

-- the promise of `profile`
abbrev pub Profile : Flat → (follow first empty reached : List ℕ) → Result (Option Clash) Refusal → (follow' first' empty' reached' : List ℕ) → Type 0
Profile g follow first empty reached r follow' first' empty' reached' =
    Call (profile_due g (lent follow (reads (firsts first empty) reached))) (Judges g) (lent follow (reads (firsts first empty) reached)) (verdict_is r) (lent follow' (reads (firsts first' empty') reached'))

-- what judging asks below the public call: a well-formed grammar, finished tables
pub record Judgeable (g : Flat) (read : Firsts) (follow : List ℕ) : Type 0 where
  pub well : WellFormed g
  pub first_is : FirstDefined g read
  pub follow_is : Defined g follow

-- and to name the clash, whose rule and lower production are the least
pub record Clashing (g : Flat) (read : Firsts) (follow : List ℕ) (rule lower : ℕ) : Type 0 where
  pub judges : Judgeable g read follow
  pub is_rule : rule < g.rules
  pub low : LowestIs g read follow 0 rule lower

-- what it answers
pub record Judging (g : Flat) (r : Option Clash) : Type 0 where
  pub verdict : Verdict
  pub answer : verdict_of r ≡ verdict
  pub judged : Judged (denoted g) verdict
