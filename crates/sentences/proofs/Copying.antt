-- Copying what is written already.
use Rattle.std.proofs.Common.{◌≡◌, ℕ, ◌+◌, ◌-◌, List, ◌++◌, length, take, drop, ap, sym, ◌∙◌, arith}
use Rattle.std.specs.List.{copy_within}
use lib.Seq.{slice, length-slice, sets-eq}
use Rattle.theory.proofs.Parts.{part_slice}
use Rattle.tables.specs.Append.{Appended}
use Rattle.sentences.specs.Expanding.{Copyable}

-- a stretch that stands before the place and is copied there is appended
pub copied : (from n at' : ℕ) (old to : List ℕ) → Copyable from n at' old → to ≡ copy_within old from (from + n) at' → Appended old at' (slice from (from + n) old) to (at' + n)
copied from n at' old to ok e =
    let w = slice from (from + n) old in
    let many : length w ≡ n = omega (arith, length-slice from (from + n) old (omega (arith, ok.before, ok.fits))) in
    record {
      next = omega (arith, many);
      left =
          e
          ∙ ap (λ z. take at' old ++ z ++ drop (at' + (from + n - from)) old) (part_slice from (from + n) old)
          ∙ ap (λ (k : ℕ). take at' old ++ w ++ drop k old) {x = at' + (from + n - from)} {y = at' + length w} (omega (arith, many))
          ∙ sym (sets-eq w old at' (omega (arith, many, ok.fits)));
    }
