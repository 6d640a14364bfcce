use mathlib.Core.Path.{refl}
use Rattle.grammar.proofs.Outcomes.{passed_on}
use Rattle.blocks.proofs.Answering.{read_7, read_20, read_21, read_22, read_1, read_23, costs_held, read_25, fits, fronts_long, read_refused, read_counts, counts_held}
use borrow.Author.Rules.{rules}
use Rattle.blocks.proofs.read.Goals as goal

pub returns-then-lists_wrong : goal.returns-then-lists_wrong
returns-then-lists_wrong c = search (rules, read_7)

pub returns-then-file_wrong : goal.returns-then-file_wrong
returns-then-file_wrong c = search (rules, read_20)

pub returns-then-checks_differ : goal.returns-then-checks_differ
returns-then-checks_differ c = search (rules, read_21)

pub returns-then-numbers_differ : goal.returns-then-numbers_differ
returns-then-numbers_differ c = search (rules, read_22)

pub counts_of-c-requires : goal.counts_of-c-requires
counts_of-c-requires c = counts_held c.args.file.now _ c.file_wrong.ensures c.if-file_wrong.false

pub returns-then-counts_out : goal.returns-then-counts_out
returns-then-counts_out c = search (rules, read_1)

pub returns-then-blocks_wrong : goal.returns-then-blocks_wrong
returns-then-blocks_wrong c = search (rules, read_23)

pub file_free-requires : goal.file_free-requires
file_free-requires c = costs_held _ _ _ c.counts_out.ensures c.if-counts_out.false _ c.blocks_wrong.ensures c.if-blocks_wrong.false

pub returns-then-file_free : goal.returns-then-file_free
returns-then-file_free c = search (rules, read_25)

pub fill-requires : goal.fill-requires
fill-requires c = fits _ _ _ _ _ _ c.lists_wrong.ensures c.if-lists_wrong.false _ c.file_wrong.ensures c.if-file_wrong.false _ c.checks_differ.ensures c.if-checks_differ.false _ c.numbers_differ.ensures c.if-numbers_differ.false _ c.counts_of-c.ensures _ c.counts_out.ensures c.if-counts_out.false _ c.blocks_wrong.ensures c.if-blocks_wrong.false

pub check_fronts-requires : goal.check_fronts-requires
check_fronts-requires c = fronts_long _ _ _ _ _ _ _ c.fill.ensures

pub returns-in_err-check_fronts : goal.returns-in_err-check_fronts
returns-in_err-check_fronts c = rw (passed_on c.from_residual.ensures) (read_refused _ _ _ _ _ _ c.lists_wrong.ensures c.if-lists_wrong.false _ c.file_wrong.ensures c.if-file_wrong.false _ c.checks_differ.ensures c.if-checks_differ.false _ c.numbers_differ.ensures c.if-numbers_differ.false _ c.counts_of-c.ensures _ c.counts_out.ensures c.if-counts_out.false _ c.blocks_wrong.ensures c.if-blocks_wrong.false _ c.file_free.ensures c.if-file_free.false _ _ _ _ c.fill.ensures _ c.in_err-check_fronts.ensures _ refl)

pub returns : goal.returns
returns c = read_counts _ _ _ _ _ _ c.lists_wrong.ensures c.if-lists_wrong.false _ c.file_wrong.ensures c.if-file_wrong.false _ c.checks_differ.ensures c.if-checks_differ.false _ c.numbers_differ.ensures c.if-numbers_differ.false _ c.counts_of-c.ensures _ c.counts_out.ensures c.if-counts_out.false _ c.blocks_wrong.ensures c.if-blocks_wrong.false _ c.file_free.ensures c.if-file_free.false _ _ _ _ c.fill.ensures _ c.in_ok-check_fronts.ensures refl
