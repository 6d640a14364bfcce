-- What is due, from what `check` and the tests on the way answered; what is known where nothing is; and the promises of both calls from it.
use mathlib.Core.Bool.{Bool, true, false, not, ◌||◌}
use mathlib.Core.List.{List}
use mathlib.Core.Path.{◌≡◌, refl, sym, ◌∙◌}
use Prim.Native.Nat.{ℕ, ◌≤◌, ◌<◌}
use lib.Dec.{eqb, leb}
use lib.ListN.{length, replicate}
use borrow.Author.Tests.{eqb-true, le-leb, lt-leb, leb-false, not-false}
use Rattle.theory.proofs.Bools.{or_none}
use Rattle.grammar.specs.Flat.{Flat}
use Rattle.grammar.specs.Outcome.{Outcome, answers, refused, unless}
use Rattle.grammar.specs.Production.{check_of}
use Rattle.grammar.specs.Refusals.{unless_due}
use Rattle.grammar.specs.Well.{WellFormed}
use Rattle.grammar.proofs.Lowest.{after_well, after_refused}
use Rattle.grammar.proofs.Outcomes.{not_both}
use Rattle.grammar.proofs.Well.{well}
use Rattle.tables.specs.Call.{Call}
use Rattle.tables.proofs.Calls.{call_refused, call_does}
use Rattle.engine.specs.Cost.{costs_of}
use Rattle.listings.specs.Calls.{work, due_by, all_due, Counts, Numbers, CountDone, lends, NumberDone}
use Rattle.listings.specs.Working.{Workable, Worked, CountReady, NumberReady}

-- `due`: the grammar is refused, or one of the tests that follow
module _ (g : Flat) (rule cost lengths counts : ℕ) (c : Outcome (Unit {0})) (is : c ≡ check_of g) where
  pub due_grammar : (n : ℕ) → c ≡ refused n → refused n ≡ due_by g rule cost lengths counts
  due_grammar n e = sym (after_refused g c _ n is e)

  module _ (e : c ≡ answers tt) (n : ℕ) (en : n ≡ g.rules) where
    abbrev tests : Bool
    tests = not (eqb cost n) || (not (eqb lengths n) || not (eqb counts n))

    pub due_7 : tests ≡ true → refused 7 ≡ due_by g rule cost lengths counts
    due_7 k = sym (after_well g c _ is e ∙ rw (← en, k))

    module _ (k : tests ≡ false) where
      pub due_9 : n ≤ rule → refused 9 ≡ due_by g rule cost lengths counts
      due_9 l = sym (after_well g c _ is e ∙ rw (← en, k, le-leb n rule l))

      pub due_none : rule < n → answers tt ≡ due_by g rule cost lengths counts
      due_none l = sym (after_well g c _ is e ∙ rw (← en, k, lt-leb n rule l))

-- the other way: where nothing is due
unless_done : {A : Type 0} (b : Bool) (n : ℕ) (x : Outcome A) {y : A} → unless b n x ≡ answers y → (b ≡ false) × (x ≡ answers y)
unless_done true n x e = absurd (not_both (sym e))
unless_done false n x e = (refl, e)

unless_due_done : (g : Flat) (x : Outcome (Unit {0})) → unless_due g x ≡ answers tt → (check_of g ≡ answers tt) × (x ≡ answers tt)
unless_due_done g x d = go (check_of g) refl
  where
    go : (o : Outcome (Unit {0})) → check_of g ≡ o → (check_of g ≡ answers tt) × (x ≡ answers tt)
    go (answers tt) e = (e, sym (after_well g (answers tt) x (sym e) refl) ∙ d)
    go (refused n) e = absurd (not_both (sym d ∙ after_refused g (refused n) x n (sym e) refl))

-- a well-formed grammar, tables of their exact lengths, one of its rules
pub record Entered (g : Flat) (rule cost lengths counts : ℕ) : Type 0 where
  pub well_formed : WellFormed g
  pub cost_long : cost ≡ g.rules
  pub lengths_long : lengths ≡ g.rules
  pub counts_long : counts ≡ g.rules
  pub is_rule : rule < g.rules

entered : (g : Flat) (rule cost lengths counts : ℕ) → due_by g rule cost lengths counts ≡ answers tt → Entered g rule cost lengths counts
entered g rule cost lengths counts d =
    let a = unless_due_done g _ d in
    let b = unless_done (not (eqb cost g.rules) || (not (eqb lengths g.rules) || not (eqb counts g.rules))) 7 _ a.1 in
    let t = or_none (not (eqb cost g.rules)) _ b.0 in
    let u = or_none (not (eqb lengths g.rules)) (not (eqb counts g.rules)) t.1 in
    let v = unless_done (leb g.rules rule) 9 _ b.1 in
    record {
      well_formed = well g a.0;
      cost_long = eqb-true cost g.rules (not-false _ t.0);
      lengths_long = eqb-true lengths g.rules (not-false _ u.0);
      counts_long = eqb-true counts g.rules (not-false _ u.1);
      is_rule = leb-false g.rules rule v.0;
    }

-- the rule asked for is one of the grammar's
pub due_rule : (g : Flat) (rule cost lengths counts : ℕ) → due_by g rule cost lengths counts ≡ answers tt → rule < g.rules
due_rule g rule cost lengths counts d = (entered g rule cost lengths counts d).is_rule

-- what the answers ask, once the tables are final
module _ (g : Flat) (r cost lengths counts : ℕ) (d : Outcome (Unit {0})) (is : d ≡ due_by g r cost lengths counts) (e : d ≡ answers tt) (cost' next' choice' lengths' counts' : List ℕ) (w : Worked g cost' next' choice' lengths' counts') where
  asked : Entered g r cost lengths counts
  asked = entered g r cost lengths counts (sym is ∙ e)

  pub ask_count : CountReady g r cost' counts'
  ask_count = record {
    well = asked.well_formed;
    cost_defined = w.final.cost;
    counts_defined = w.final.counts;
    is_rule = asked.is_rule;
  }

  pub ask_number : NumberReady g r cost' next' choice' lengths' counts'
  ask_number = record { well = asked.well_formed; worked = w; is_rule = asked.is_rule }

-- both calls, r being the rule asked for
module _ (g : Flat) (rule : ℕ) (cost lengths counts : List ℕ) (r : ℕ) (er : r ≡ rule) (d : Outcome (Unit {0})) (is : d ≡ due_by g r (length cost) (length lengths) (length counts)) where
  due_is : d ≡ all_due g rule (work cost lengths counts)
  due_is = rw er at is

  module _ (m : ℕ) (e : d ≡ refused m) where
    refused_is : all_due g rule (work cost lengths counts) ≡ refused m
    refused_is = sym due_is ∙ e

    pub ask_count_refused : Call (all_due g rule (work cost lengths counts)) (CountDone g rule) (work cost lengths counts) (refused m) (work cost lengths counts)
    ask_count_refused = call_refused m refused_is

    pub ask_number_refused : (k : ℕ) (out : List ℕ) → Call (all_due g rule (work cost lengths counts)) (NumberDone g rule k out) (lends (work cost lengths counts) out) (refused m) (lends (work cost lengths counts) out)
    ask_number_refused k out = call_refused m refused_is

  module _ (e : d ≡ answers tt) where
    known : Entered g r (length cost) (length lengths) (length counts)
    known = entered g r (length cost) (length lengths) (length counts) (sym is ∙ e)

    done : all_due g rule (work cost lengths counts) ≡ answers tt
    done = sym due_is ∙ e

    pub ask_work : Workable g cost (replicate 4096 4096) (replicate 512 4096) lengths counts
    ask_work = record {
      well = known.well_formed;
      cost_long = known.cost_long;
      next_none = refl;
      choice_none = refl;
      lengths_long = known.lengths_long;
      counts_long = known.counts_long;
    }

    module _ (cost' next' choice' lengths' counts' : List ℕ) (w : Worked g cost' next' choice' lengths' counts') where
      pub ask_counted : (said : Outcome ℕ) → Counts g (costs_of cost') r said → Call (all_due g rule (work cost lengths counts)) (CountDone g rule) (work cost lengths counts) said (work cost' lengths' counts')
      ask_counted said s = call_does said (work cost' lengths' counts') done (record { final = w.final; counts = rw er at s })

      pub ask_numbered : (k : ℕ) (out : List ℕ) (said : Outcome ℕ) (out' : List ℕ) → Numbers g (costs_of cost') r k out said out'
          → Call (all_due g rule (work cost lengths counts)) (NumberDone g rule k out) (lends (work cost lengths counts) out) said (lends (work cost' lengths' counts') out')
      ask_numbered k out said out' s = call_does said (lends (work cost' lengths' counts') out') done (record { final = w.final; numbers = rw er at s })
