use Rattle.listings.proofs.Working.{work_sentence, work_links, work_counts, work_done}
use Rattle.listings.proofs.inner.work.Goals as goal

pub work-requires : goal.work-requires
work-requires c = work_sentence _ _ _ _ _ _ c.requires

pub links-requires : goal.links-requires
links-requires c = work_links _ _ _ _ _ _ c.requires

pub count_fill-requires : goal.count_fill-requires
count_fill-requires c = work_counts _ _ _ _ _ _ c.requires _ _ _ c.work.ensures _ _ c.links.ensures

pub returns : goal.returns
returns c = work_done _ _ _ _ _ _ c.requires _ _ _ c.work.ensures _ _ c.links.ensures _ c.count_fill.ensures
