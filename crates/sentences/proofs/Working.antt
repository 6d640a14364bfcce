-- The working tables: what each fill asks, and what they come to.
use mathlib.Core.List.{List}
use Prim.Native.Nat.{ℕ}
use Rattle.grammar.specs.Flat.{Flat}
use Rattle.engine.specs.Cost.{costs_of}
use Rattle.costs.specs.Defined.{CostDefined}
use Rattle.sentences.specs.Choosing.{FirstChoices}
use Rattle.sentences.specs.Measuring.{LengthFillable, LengthsBy}
use Rattle.sentences.specs.Working.{Workable, Worked}

module _ (g : Flat) (cost choice lengths : List ℕ) (ok : Workable g cost choice lengths) where
  module _ (cost' : List ℕ) (d : CostDefined g cost') where
    module _ (choice' : List ℕ) (h : FirstChoices g cost' choice') where
      pub work_lengths : LengthFillable g choice' lengths
      work_lengths = record { well = ok.well; picks = record { room = h.room; table = costs_of cost'; chosen = h.chosen }; long = ok.lengths_long }

      pub work_done : (lengths' : List ℕ) → LengthsBy g choice' lengths' → Worked g cost' choice' lengths'
      work_done lengths' l = record { prices = d; picks = h; counts = l (costs_of cost') h.chosen }
