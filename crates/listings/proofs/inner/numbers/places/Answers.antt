use mathlib.Core.Path.{refl}
use Rattle.listings.proofs.Placing.{placing_start, placing_end, placing_token, placing_entry, placing_one, placing_place, placing_more}
use borrow.Author.Rules.{rules}
use native.Mathlib.Omega.{arith}
use Rattle.listings.proofs.inner.numbers.places.Goals as goal

pub loop-s-init : goal.loop-s-init
loop-s-init c = search (rules, placing_start)

pub loop-s-preserved-then-s-lt32768 : goal.loop-s-preserved-then-s-lt32768
loop-s-preserved-then-s-lt32768 c = search (rules, placing_token)

pub entry_at-n-requires : goal.entry_at-n-requires
entry_at-n-requires c = search (rules, placing_entry)

pub loop-s-preserved-then-n-eq1 : goal.loop-s-preserved-then-n-eq1
loop-s-preserved-then-n-eq1 c = search (rules, placing_one)

pub offset_bounds-bases-m : goal.offset_bounds-bases-m
offset_bounds-bases-m c = omega (arith, placing_place _ _ _ _ _ c.requires _ _ _ c.loop-s.invariant c.loop-s-test.true _ refl c.if-s-lt32768.false _ c.from.ensures _ c.entry_at-n.ensures c.if-n-eq1.false)

pub bounds-bases-m : goal.bounds-bases-m
bounds-bases-m c = search (rules, placing_place)

pub loop-s-preserved : goal.loop-s-preserved
loop-s-preserved c = search (rules, placing_more)

pub returns : goal.returns
returns c = search (rules, placing_end)
