use mathlib.Core.Path.{sym}
use Prim.Native.Nat.{ℕ}
use lib.ListN.{length-replicate}
use Rattle.report.specs.Steps.{report_room}
use Rattle.report.proofs.report_room.Goals as goal

pub returns : goal.returns
returns c = sym (length-replicate {0} {A = ℕ} report_room 0)
