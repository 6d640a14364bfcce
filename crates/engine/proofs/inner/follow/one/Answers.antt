use Rattle.engine.proofs.Putting.{token_place, one_token, one_put, one_pass, one_rule_law}
use Rattle.engine.proofs.inner.follow.one.Goals as goal

pub set-requires : goal.set-requires
set-requires c = token_place _ _ _ _ _ _ _ c.requires c.if-s-lt32768.true _ _ _ c.clear.ensures c.table_width.ensures c.from.ensures

pub returns-then-s-lt32768 : goal.returns-then-s-lt32768
returns-then-s-lt32768 c = one_token _ _ _ _ _ _ _ c.requires c.if-s-lt32768.true _ _ _ c.clear.ensures c.table_width.ensures c.from.ensures _ _ _ _ c.set.ensures.new c.set.ensures.left

pub put-got-requires : goal.put-got-requires
put-got-requires c = one_put _ _ _ _ _ _ _ c.requires c.if-s-lt32768.false _ c.from-r.ensures

pub pass-vanishes-requires : goal.pass-vanishes-requires
pass-vanishes-requires c = one_pass _ _ _ _ _ _ _ c.requires c.if-s-lt32768.false _ c.from-r.ensures

pub returns : goal.returns
returns c = one_rule_law _ _ _ _ _ _ _ c.requires c.if-s-lt32768.false _ c.from-r.ensures _ _ _ _ _ _ c.put-got.ensures c.pass-vanishes.ensures
