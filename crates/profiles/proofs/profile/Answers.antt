use mathlib.Core.Path.{refl}
use Rattle.grammar.proofs.Outcomes.{passed_on}
use Rattle.profiles.proofs.Calling.{profile_refused, fillable, judgeable, profile_does}
use Rattle.profiles.proofs.profile.Goals as goal

pub returns-in_err-due : goal.returns-in_err-due
returns-in_err-due c = rw (passed_on c.from_residual.ensures) (profile_refused _ _ _ _ _ _ c.in_err-due.ensures _ refl)

pub fill-requires : goal.fill-requires
fill-requires c = fillable _ _ _ _ _ _ c.in_ok-due.ensures refl

pub judge-requires : goal.judge-requires
judge-requires c = judgeable _ c.args.follow.now c.args.first.now c.args.empty.now c.args.reached.now _ c.in_ok-due.ensures refl _ _ _ _ c.fill.ensures

pub returns : goal.returns
returns c = profile_does _ _ _ _ _ _ c.in_ok-due.ensures refl _ _ _ _ c.fill.ensures _ c.judge.ensures
