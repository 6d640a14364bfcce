-- The working tables: what each part of filling them asks, and what they come to.
use mathlib.Core.List.{List}
use mathlib.Core.Path.{sym, ap, ◌∙◌, subst}
use Prim.Native.Nat.{ℕ}
use native.Mathlib.Omega.{arith}
use lib.ListN.{length, replicate, length-replicate}
use Rattle.grammar.specs.Flat.{Flat}
use Rattle.grammar.specs.Links.{Linked, Linkable}
use Rattle.grammar.proofs.Linking.{linkable}
use Rattle.engine.specs.Cost.{costs_of}
use Rattle.sentences.specs.Working as Sentence
use Rattle.listings.specs.Calls.{CountsDefined}
use Rattle.listings.specs.Counting.{Nexts, Ground, CountFillable}
use Rattle.listings.specs.Working.{Workable, Worked}

module _ (g : Flat) (cost next choice lengths counts : List ℕ) (ok : Workable g cost next choice lengths counts) where
  pub work_sentence : Sentence.Workable g cost choice lengths
  work_sentence = record { well = ok.well; cost_long = ok.cost_long; none = ok.choice_none; lengths_long = ok.lengths_long }

  pub work_links : Linkable g.owners (replicate 512 4096) next
  work_links = subst (Linkable g.owners (replicate 512 4096)) (sym ok.next_none) (linkable g.owners ok.well.sizes.prods_high (λ p l. omega (arith, ok.well.owner p l, ok.well.sizes.rules_high)))

  module _ (cost' choice' lengths' : List ℕ) (w : Sentence.Worked g cost' choice' lengths') (head' next' : List ℕ) (l : Linked 512 (length next) g.owners head' next' 0) where
    nexts : Nexts g next'
    nexts = record { long = l.next_long ∙ ap length ok.next_none ∙ length-replicate {A = ℕ} 4096 4096; nexts = λ q lq. l.nexts q (omega arith) lq }

    ground : Ground g next' cost' choice'
    ground = record { well = ok.well; links = nexts; prices = w.prices; picks = w.picks }

    pub work_counts : CountFillable g next' cost' choice' counts
    work_counts = record { ground = ground; long = ok.counts_long }

    pub work_done : (counts' : List ℕ) → CountsDefined g (costs_of cost') counts' → Worked g cost' next' choice' lengths' counts'
    work_done counts' d = record { final = record { cost = w.prices; lengths = w.counts; counts = d }; links = nexts; picks = w.picks }
