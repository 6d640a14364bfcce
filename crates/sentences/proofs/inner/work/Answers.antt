use Rattle.sentences.proofs.Working.{work_lengths, work_done}
use Rattle.sentences.proofs.inner.work.Goals as goal

pub length_fill-requires : goal.length_fill-requires
length_fill-requires c = work_lengths _ _ _ _ c.requires _ c.cost_fill.ensures _ c.choices.ensures

pub returns : goal.returns
returns c = work_done _ _ _ _ c.requires _ c.cost_fill.ensures _ c.choices.ensures _ c.length_fill.ensures
