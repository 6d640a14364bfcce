use mathlib.Core.Path.{refl}
use Rattle.grammar.proofs.Outcomes.{passed_on}
use Rattle.grammar.proofs.Callers.{few_rules, few_tokens}
use Rattle.tables.proofs.Calls.{refuses}
use Rattle.lines.proofs.Calling.{line_7, line_9, line_ready, line_count, line_does}
use Rattle.lines.proofs.line.Goals as goal

pub returns-in_err-check : goal.returns-in_err-check
returns-in_err-check c = rw (passed_on c.from_residual.ensures) (refuses _ _ _ c.in_err-check.ensures _ refl)

pub tables_wrong-requires : goal.tables_wrong-requires
tables_wrong-requires c = (few_rules _ _ _ _ _ _ c.in_ok-check.ensures refl _ refl, few_tokens _ _ _ _ _ _ c.in_ok-check.ensures refl)

pub returns-then-tables_wrong-out_wrong : goal.returns-then-tables_wrong-out_wrong
returns-then-tables_wrong-out_wrong c = line_7 _ _ _ _ _ _ _ _ _ _ _ _ c.in_ok-check.ensures refl _ c.from-n.ensures _ _ c.tables_wrong.ensures c.out_wrong.ensures c.if-tables_wrong-out_wrong.true

pub returns-then-n-r : goal.returns-then-n-r
returns-then-n-r c = line_9 _ _ _ _ _ _ _ _ _ _ _ _ c.in_ok-check.ensures refl _ c.from-n.ensures _ _ c.tables_wrong.ensures c.out_wrong.ensures c.if-tables_wrong-out_wrong.false _ c.from-r.ensures c.if-n-r.true

pub write-end-requires : goal.write-end-requires
write-end-requires c = line_ready _ _ _ _ _ _ _ _ _ _ _ _ c.in_ok-check.ensures refl _ c.from-n.ensures _ _ c.tables_wrong.ensures c.out_wrong.ensures c.if-tables_wrong-out_wrong.false _ c.from-r.ensures c.if-n-r.false

pub count-requires : goal.count-requires
count-requires c = line_count _ _ _ _ _ _ _ _ _ _ _ _ c.in_ok-check.ensures refl _ c.from-n.ensures _ _ c.tables_wrong.ensures c.out_wrong.ensures c.if-tables_wrong-out_wrong.false _ c.from-r.ensures c.if-n-r.false _ _ c.write-end.ensures

pub returns : goal.returns
returns c = line_does _ _ _ _ _ _ _ _ _ _ _ _ c.in_ok-check.ensures refl _ c.from-n.ensures _ _ c.tables_wrong.ensures c.out_wrong.ensures c.if-tables_wrong-out_wrong.false _ c.from-r.ensures c.if-n-r.false _ _ c.write-end.ensures _ c.count.ensures
