-- What the returns of `profile` owe, from what its entry answered.
use Rattle.grammar.specs.Outcome.{Outcome}
use Rattle.grammar.specs.Outcome.{answers}
use mathlib.Core.List.{List, [], ◌∷◌}
use mathlib.Core.Path.{◌≡◌, refl, ap}
use Prim.Native.Nat.{ℕ}
use lib.ListN.{length}
use Rattle.grammar.specs.Flat.{Flat}
use Rattle.grammar.specs.Outcome.{refused}
use Rattle.grammar.proofs.Entry.{none_due}
use Rattle.tables.specs.Call.{Call}
use Rattle.tables.proofs.Calls.{call_does, stops, enters}
use Rattle.engine.specs.First.{lent as firsts}
use Rattle.engine.specs.Follow.{Lent, lent, reads}
use Rattle.follows.specs.Calls.{lent_wrong, LentDue, Fillable, Tables}
use Rattle.follows.proofs.Calling.{fillable as follow_fillable}
use Rattle.profiles.specs.declared.Clash.{Clash}
use Rattle.std.specs.Prelude.{Option}
use Rattle.profiles.specs.Calls.{verdict_of, profile_due, Judges, Judgeable, Judging}

module _ (g : Flat) (follow first empty reached : List ℕ) (c : Outcome (Unit {0})) (is : LentDue g (length follow) (length first) (length empty) (length reached) c) where
  abbrev l : Lent
  l = lent follow (reads (firsts first empty) reached)

  pub profile_refused : (n : ℕ) → c ≡ refused n → Call (profile_due g l) (Judges g) l (refused n) l
  profile_refused n e = stops c n e (is l refl refl refl refl)

  module _ (e : c ≡ answers tt) where
    pub fillable : Fillable g l
    fillable = let k = none_due g ((lent_wrong g.rules (length g.costs) l, 7) ∷ []) (enters c e (is l refl refl refl refl)) in follow_fillable g follow first empty reached k.0 k.1.0

    module _ (o f m s : List ℕ) (d : Tables g (lent o (reads (firsts f m) s))) where
      pub judgeable : Judgeable g (firsts f m) o
      judgeable = record { well = fillable.well; first_is = d.read.firsts; follow_is = d.follow }

      pub profile_does : (r : Option Clash) → Judging g r → Call (profile_due g l) (Judges g) l (answers (verdict_of r)) (lent o (reads (firsts f m) s))
      profile_does r j = call_does (answers (verdict_of r)) (lent o (reads (firsts f m) s)) (enters c e (is l refl refl refl refl)) (record { verdict = j.verdict; answer = ap answers j.answer; judged = j.judged; tables = d })
