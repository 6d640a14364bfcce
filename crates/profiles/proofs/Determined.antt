-- The promise determines the verdict and every lent word: any two results that it allows are equal.
use mathlib.Core.List.{List}
use mathlib.Core.Path.{◌≡◌, refl, sym, ◌∙◌, ap}
use Prim.Native.Nat.{ℕ}
use Rattle.theory.specs.Profile.{Verdict, passes, clashes}
use Rattle.theory.proofs.Profile.{judged_one}
use Rattle.grammar.specs.Flat.{Flat, denoted}
use Rattle.grammar.specs.Outcome.{Outcome, answers, refused}
use Rattle.tables.proofs.Calls.{Both, Alike, call_one}
use Rattle.engine.specs.First.{lent as firsts}
use Rattle.engine.specs.Follow.{Lent, lent, reads}
use Rattle.follows.proofs.Determined.{tables_one}
use Rattle.profiles.specs.declared.Clash.{Clash}
use Rattle.grammar.specs.Lent.{outcome_of}
use Rattle.grammar.specs.declared.refusal.Refusal.{Refusal}
use Rattle.std.specs.Prelude.{Result, Ok, Err, Option, None, Some}
use Rattle.grammar.proofs.Determined.{outcome_one}
use Rattle.profiles.specs.Calls.{verdict_is, profile_due, Judges, Profile}

judges_one : (g : Flat) (s t : Outcome Verdict) (a b : Lent) → Judges g s a → Judges g t b → Both s t a b
judges_one g s t a b x y = record {
  said = x.answer ∙ ap answers (judged_one (denoted g) x.verdict y.verdict x.judged y.judged) ∙ sym y.answer;
  left = tables_one g a b x.tables y.tables;
}

verdict_one : (a b : Result (Option Clash) Refusal) → verdict_is a ≡ verdict_is b → a ≡ b
verdict_one a b e = outcome_one (clash a ∙ ap back e ∙ sym (clash b))
  where
    back : Outcome Verdict → Outcome (Option Clash)
    back (answers passes) = answers None
    back (answers (clashes r p q t)) = answers (Some (record { rule = record { 0 = r }; lower = record { 0 = p }; higher = record { 0 = q }; token = record { 0 = t } }))
    back (refused n) = refused n

    clash : (a : Result (Option Clash) Refusal) → outcome_of a ≡ back (verdict_is a)
    clash (Ok None) = refl
    clash (Ok (Some c)) = refl
    clash (Err e) = refl

pub profile_one : (g : Flat) (follow first empty reached : List ℕ) {r s : Result (Option Clash) Refusal} {o f e u o' f' e' u' : List ℕ} → Profile g follow first empty reached r o f e u → Profile g follow first empty reached s o' f' e' u' → Alike r s (lent o (reads (firsts f e) u)) (lent o' (reads (firsts f' e') u'))
profile_one g follow first empty reached {r} {s} x y =
    let z = call_one (judges_one g) (profile_due g (lent follow (reads (firsts first empty) reached))) x y in
    record { answer = verdict_one r s z.said; left = z.left }
