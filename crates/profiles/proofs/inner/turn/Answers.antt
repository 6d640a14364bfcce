use borrow.Author.Rules.{rules}
use Rattle.profiles.proofs.Turning.{meet_place, join_place, turns_this, turns_same}
use Rattle.profiles.proofs.inner.turn.Goals as goal

pub meets-hit-requires : goal.meets-hit-requires
meets-hit-requires c = meet_place _ _ _ _ _ _ c.requires _ c.start_at-r.ensures.0 _ c.starts_row-row.ensures

pub join_from-requires : goal.join_from-requires
join_from-requires c = join_place _ _ _ _ _ _ c.requires _ c.start_at-r.ensures.0 _ c.starts_row-row.ensures

pub returns-then-hit-is_none_or : goal.returns-then-hit-is_none_or
returns-then-hit-is_none_or c = turns_this _ _ _ _ _ _ c.requires _ c.start_at-r.ensures.0 _ c.starts_row-row.ensures _ c.meets-hit.ensures _ _ c.join_from.ensures _ c.is_none_or.ensures (λ l told. search rules) c.if-hit-is_none_or.true

pub returns : goal.returns
returns c = turns_same _ _ _ _ _ _ c.requires _ c.start_at-r.ensures.0 _ c.starts_row-row.ensures _ c.meets-hit.ensures _ _ c.join_from.ensures _ c.is_none_or.ensures (λ l told. search rules) c.if-hit-is_none_or.false
