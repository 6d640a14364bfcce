use native.Mathlib.Omega.{arith}
use Rattle.lines.proofs.Fields.{front_number, front_comma, front_flag, front_last, front_made}
use borrow.Author.Rules.{rules}
use Rattle.lines.proofs.inner.front.Goals as goal

pub number-a-requires : goal.number-a-requires
number-a-requires c = search (rules, front_number)

pub copy-b-requires : goal.copy-b-requires
copy-b-requires c = search (rules, front_comma)

pub put-c-requires : goal.put-c-requires
put-c-requires c = front_flag _ _ _ _ c.requires _ _ c.number-a.ensures _ _ _ c.copy-b.ensures (omega arith) _

pub copy-requires : goal.copy-requires
copy-requires c = front_last _ _ _ _ c.requires _ _ c.number-a.ensures _ _ _ c.copy-b.ensures (omega arith) _ _ _ c.put-c.ensures _ (omega arith)

pub returns : goal.returns
returns c = search (rules, front_made)
