-- Any two results that a slice's promise allows are equal: the answer, the job and every lent table.
use Rattle.grammar.specs.declared.refusal.Refusal.{Refusal}
use Rattle.std.specs.Prelude.{Result}
use mathlib.Core.Bool.{Bool, true, false}
use mathlib.Core.Path.{◌≡◌, refl, sym, ◌∙◌, ap, ap₂}
use Prim.Native.Nat.{ℕ}
use lib.ListN.{length}
use Rattle.theory.proofs.Bools.{bool_eq}
use Rattle.theory.proofs.Slices.{slice_one}
use Rattle.grammar.specs.Flat.{Flat}
use Rattle.grammar.proofs.Determined.{outcome_one}
use Rattle.grammar.specs.Outcome.{Outcome, answers}
use Rattle.rows.proofs.Row.{row_one}
use Rattle.rows.proofs.Tables.{became_one}
use Rattle.tables.specs.Sizes.{words}
use Rattle.tables.proofs.Calls.{Both, call_one}
use Rattle.engine.specs.First.{Lent as Firsts, lent as firsts}
use Rattle.engine.proofs.FirstMoving.{first_became_one}
use Rattle.engine.proofs.CostMoving.{costs_words}
use Rattle.jobs.specs.declared.Job.{Job}
use Rattle.jobs.specs.Kinds.{Tables, tables, Kind, first, follow, productive, cost, kind_of, Became, Visit}
use Rattle.jobs.specs.Calls.{job_at, slice_due, Lends, lends, Works, SliceOf}

made_one : (k : Kind) (g : Flat) (p : ℕ) (a b d : Tables) → Became k g p a b → Became k g p a d → b ≡ d
made_one first g p a b d x y =
    x.others ∙ ap (λ (z : Firsts). tables z.first z.empty a.follow a.productive a.cost a.reached) (first_became_one g p (firsts a.first a.empty) (firsts b.first b.empty) (firsts d.first d.empty) x.step y.step) ∙ sym y.others
made_one (follow read) g p a b d x y =
    x.others ∙ ap (λ z. tables a.first a.empty z a.productive a.cost a.reached) (became_one g.rules (length g.costs) (words (length g.costs)) a.follow b.follow d.follow _ x.step y.step) ∙ sym y.others
made_one productive g p a b d x y =
    x.others ∙ ap (λ z. tables a.first a.empty a.follow z a.cost a.reached) (row_one g.rules (words g.rules) a.productive b.productive d.productive _ x.step y.step) ∙ sym y.others
made_one cost g p a b d x y =
    x.others ∙ ap (λ z. tables a.first a.empty a.follow a.productive z a.reached) (costs_words b.cost d.cost (x.step.long ∙ sym y.step.long) (λ r. x.step.entries r ∙ sym (y.step.entries r))) ∙ sym y.others

said_one : (k : Kind) (g : Flat) (p : ℕ) (a b d : Tables) (x y : Bool) → Visit k g p a x b → Visit k g p a y d → x ≡ true → y ≡ true
said_one k g p a b d x true v w e = refl
said_one k g p a b d x false v w e = absurd (v.told e (made_one k g p a b d v.became w.became ∙ w.still refl))

visit_one : (k : Kind) (g : Flat) (p : ℕ) (a b d : Tables) (x y : Bool) → Visit k g p a x b → Visit k g p a y d → (x ≡ y) × (b ≡ d)
visit_one k g p a b d x y v w = (bool_eq x y (said_one k g p a b d x y v w) (said_one k g p a d b y x w v), made_one k g p a b d v.became w.became)

works_one : (g : Flat) (n : ℕ) (j : Job) (t : Tables) (s s' : Outcome ℕ) (a a' : Lends) → Works g n j t s a → Works g n j t s' a' → Both s s' a a'
works_one g n j t s s' a a' x y =
    let o = slice_one (visit_one (kind_of j.kind t) g) x.slice y.slice in
    record {
      said = x.answer ∙ ap answers o.0 ∙ sym y.answer;
      left = ap₂ lends (x.job ∙ ap (job_at j.kind) o.1 ∙ sym y.job) o.2;
    }

pub slice_call_one : (g : Flat) (n : ℕ) (j : Job) (t : Tables) (r r' : Result ℕ Refusal) (i i' : Job) (d d' : Tables) → SliceOf g n j t r i d → SliceOf g n j t r' i' d' → (r ≡ r') × (i ≡ i') × (d ≡ d')
slice_call_one g n j t r r' i i' d d' x y =
    let o = call_one (works_one g n j t) (slice_due g j t) x y in
    (outcome_one o.said, ap (λ (z : Lends). z.job) o.left, ap (λ (z : Lends). z.lent) o.left)
