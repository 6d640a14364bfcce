use Rattle.report.proofs.Filling.{filled_ready}
use Rattle.report.proofs.tables_report.Goals as goal

pub fill_cost-requires : goal.fill_cost-requires
fill_cost-requires c = record { well = c.requires.fillable.well; long = c.requires.fillable.cost_long }

pub lines_report-requires : goal.lines_report-requires
lines_report-requires c = record { ready = filled_ready _ c.requires.fillable.well _ _ _ _ c.fill_sets.ensures c.fill_cost.ensures; room = c.requires.room }
