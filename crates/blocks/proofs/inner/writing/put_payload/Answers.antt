use Rattle.blocks.specs.File.{part_of}
use Rattle.blocks.proofs.Lists.{fill_start, fill_on}
use Rattle.blocks.proofs.Writing.{part_filled}
use borrow.Author.Rules.{rules}
use Rattle.blocks.proofs.inner.writing.put_payload.Goals as goal

pub loop-k-init : goal.loop-k-init
loop-k-init c = search (rules, fill_start)

pub loop-k-preserved : goal.loop-k-preserved
loop-k-preserved c = search (rules, fill_on)

pub returns : goal.returns
unfolding part_of
returns c = part_filled _ _ _ _ _ 508 _ (search rules) c.requires.room.1 c.loop-k.invariant c.loop-k-test.false (search rules)
