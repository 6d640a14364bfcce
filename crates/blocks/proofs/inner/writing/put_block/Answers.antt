use Rattle.blocks.proofs.Writing.{check_in, block_put}
use borrow.Author.Rules.{rules}
use Rattle.blocks.proofs.inner.writing.put_block.Goals as goal

pub put_number-requires : goal.put_number-requires
put_number-requires c = check_in _ _ _ _ _ _ _ _ _ c.short.ensures c.requires.room.1 c.requires.room.2 c.put_number-from.ensures c.put_payload-end.ensures

pub returns : goal.returns
returns c = search (rules, block_put)
