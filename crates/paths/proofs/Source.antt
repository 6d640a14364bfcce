-- The source's `has_path` returns for a grammar that the crate can build and two of its rules, and its answer is ours.
use Rattle.grammar.specs.declared.refusal.Refusal.{Refusal}
use Rattle.std.specs.Prelude.{Result}
use Rattle.grammar.specs.Lent.{outcome_of}
use mathlib.Core.Bool.{Bool}
use mathlib.Core.Path.{◌≡◌, ◌∙◌, ap}
use Prim.Native.Nat.{ℕ, ◌<◌}
use borrow.Author.Tests.{lt-leb}
use Rattle.theory.specs.Search.{start}
use Rattle.theory.proofs.Bools.{bool_eq}
use Rattle.source.specs.Paths.{Returns}
use Rattle.source.proofs.Paths.{has_path_returns, has_path_right}
use Rattle.grammar.specs.Flat.{Flat, denoted}
use Rattle.grammar.specs.Outcome.{answers}
use Rattle.grammar.specs.Well.{Built}
use Rattle.grammar.proofs.Denoted.{proper}
use Rattle.grammar.proofs.Lowest.{due_none, answers_none}
use Rattle.grammar.proofs.Well.{formed}
use Rattle.paths.specs.Calls.{path_due, HasPath}

module _ (g : Flat) (built : Built g) (a b : ℕ) (la : a < g.rules) where
  pub source_returns : (x : Bool) × Returns (denoted g) b (start a) x
  source_returns = has_path_returns (denoted g) (proper g built.well) a b la

  module _ (lb : b < g.rules) where
    not_due : path_due g a b ≡ answers tt
    not_due = due_none g _ (answers_none g (formed g built.well)) ∙ rw (lt-leb g.rules a la, lt-leb g.rules b lb)

    pub source_equal : (r : Result Bool Refusal) → HasPath g a b r → {x : Bool} → Returns (denoted g) b (start a) x → outcome_of r ≡ answers x
    source_equal r h {x} s =
        let o = h.does not_due in
        let p = has_path_right (denoted g) (proper g built.well) a b la s in
        o.told ∙ ap answers (bool_eq o.answer x (λ e. p.0 (o.right.1 e)) (λ e. o.right.0 (p.1 e)))
