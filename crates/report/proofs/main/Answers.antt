use Rattle.std.proofs.Common.{arith, length}
use Rattle.report.proofs.Printing.{prints}
use Rattle.report.proofs.main.Goals as goal

pub print-requires : goal.print-requires
print-requires c = prints (length c.read_file.new.file) c.in-Ok.n c.read_file.new.file _ (omega arith) c.file_report-end.ensures.is
