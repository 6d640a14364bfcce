use Rattle.report.proofs.Printing.{file_held, file_whole, file_refused}
use Rattle.report.proofs.file_report.Goals as goal

pub fronts_report-requires : goal.fronts_report-requires
fronts_report-requires c = let h = file_held _ _ _ _ _ c.read.result c.read.ensures _ c.in-Ok.is in record { long = h.long; well = h.well; room = c.requires }

pub returns-in-Ok : goal.returns-in-Ok
returns-in-Ok c = record { within = c.fronts_report.ensures.within; is = file_whole _ _ _ _ _ c.read.result c.read.ensures _ c.in-Ok.is _ c.fronts_report.ensures.is }

pub returns-in-Err : goal.returns-in-Err
returns-in-Err c = record { within = c.refusal.ensures.within; is = file_refused _ _ _ _ _ c.read.result c.read.ensures _ c.in-Err.is _ c.from.ensures _ c.refusal.ensures.is }
