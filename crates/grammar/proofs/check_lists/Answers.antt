use Rattle.theory.proofs.Bools.{told}
use Rattle.grammar.proofs.Lowest.{gives_1, gives_2, gives_3, gives_4, gives_5, gives_6, gives_none}
use Rattle.grammar.proofs.Well.{rules_limit, tokens_some, tokens_limit, prods_limit, starts_laid}
use borrow.Author.Rules.{rules}
use Rattle.grammar.proofs.check_lists.Goals as goal

pub returns-then-sizes_out : goal.returns-then-sizes_out
returns-then-sizes_out c = search (rules, gives_1, told)

pub starts_wrong-requires : goal.starts_wrong-requires
starts_wrong-requires c = search (rules, prods_limit)

pub returns-then-starts_wrong : goal.returns-then-starts_wrong
returns-then-starts_wrong c = search (rules, gives_2, told)

pub returns-then-owner_out : goal.returns-then-owner_out
returns-then-owner_out c = search (rules, gives_3, told)

pub rule_unowned-requires : goal.rule_unowned-requires
rule_unowned-requires c = search (rules, rules_limit, told)

pub returns-then-rule_unowned : goal.returns-then-rule_unowned
returns-then-rule_unowned c = search (rules, gives_4, told)

pub symbols_out-requires : goal.symbols_out-requires
symbols_out-requires c = (rules_limit _ _ _ _ _ c.sizes_out.ensures c.if-sizes_out.false, tokens_some _ _ _ _ _ c.sizes_out.ensures c.if-sizes_out.false, tokens_limit _ _ _ _ _ c.sizes_out.ensures c.if-sizes_out.false)

pub returns-then-symbols_out : goal.returns-then-symbols_out
returns-then-symbols_out c = search (rules, gives_5, told)

pub start_wrong-requires : goal.start_wrong-requires
start_wrong-requires c = starts_laid _ _ _ _ c.starts_wrong.ensures c.if-starts_wrong.false

pub returns-then-start_wrong : goal.returns-then-start_wrong
returns-then-start_wrong c = search (rules, gives_6, told)

pub returns : goal.returns
returns c = search (rules, gives_none, told)
