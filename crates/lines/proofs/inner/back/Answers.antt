use Rattle.lines.proofs.Fields.{back_price, back_feed, back_made}
use borrow.Author.Rules.{rules}
use Rattle.lines.proofs.inner.back.Goals as goal

pub price-next-requires : goal.price-next-requires
price-next-requires c = search (rules, back_price)

pub copy-requires : goal.copy-requires
copy-requires c = search (rules, back_feed)

pub returns : goal.returns
returns c = search (rules, back_made)
