use Rattle.report.proofs.Filling.{zeros, fronts_fillable}
use native.Mathlib.Omega.{arith}
use lib.ListN.{replicate}
use lib.Seq.{length-take-le}
use Rattle.blocks.proofs.Steps.{taken}
use borrow.Author.Rules.{rules}
use Rattle.report.proofs.grammar_report.Goals as goal

pub slice_bounds-tables_report-end : goal.slice_bounds-tables_report-end
slice_bounds-tables_report-end c = taken _ (replicate 16 0) (omega (arith, zeros 16))

pub slice_bounds-tables_report-end-2 : goal.slice_bounds-tables_report-end-2
slice_bounds-tables_report-end-2 c = search (rules, length-take-le)

pub slice_bounds-tables_report-end-3 : goal.slice_bounds-tables_report-end-3
slice_bounds-tables_report-end-3 c = search (rules, length-take-le)

pub slice_bounds-tables_report-end-4 : goal.slice_bounds-tables_report-end-4
slice_bounds-tables_report-end-4 c = taken _ (replicate 512 0) (omega (arith, zeros 512))

pub tables_report-requires : goal.tables_report-requires
tables_report-requires c = record { fillable = fronts_fillable _ c.requires.well _ _ _ c.from-n.ensures c.words_for-w.ensures c.table_words-k.ensures.is; room = c.requires.room }
