use borrow.Author.Rules.{rules}
use native.Mathlib.Omega.{arith}
use Rattle.next_change.proofs.Walking.{walk-begin, walk-ready, walk_before, walk-refused, walk-words, walk-changes, walk-on, walk_end}
use Rattle.next_change.proofs.change_within.Goals as goal

pub loop-i-init : goal.loop-i-init
loop-i-init c = (search rules, walk-begin _ _ _ _ _ _ c.requires.0 c.requires.1)

pub date_of-date-requires : goal.date_of-date-requires
date_of-date-requires c = c.loop-i.invariant.1.is

pub schedule_at-requires : goal.schedule_at-requires
schedule_at-requires c = walk-ready _ _ _ _ _ _ _ _ _ c.loop-i.invariant.1 _ (omega (arith, c.loop-i.invariant.0))

pub returns-in-Err : goal.returns-in-Err
returns-in-Err c =
    rw c.refused_on.ensures (walk-refused _ _ _ _ _ _ _ _ _ c.loop-i.invariant.1 c.loop-i-test.true _ c.date_of-date.ensures _ _ c.in-Err.ensures)

pub look_at-look-requires : goal.look_at-look-requires
look_at-look-requires c =
    (walk-words _ _ _ _ _ _ _ _ _ c.loop-i.invariant.1 c.loop-i-test.true _ c.date_of-date.ensures _ _ c.in-Ok.ensures, c.loop-i.invariant.1.rests.early)

pub returns-in-Some : goal.returns-in-Some
returns-in-Some c = walk-changes _ _ _ _ _ _ _ _ _ c.loop-i.invariant.1 c.loop-i-test.true _ c.date_of-date.ensures _ _ c.in-Ok.ensures _ (rw c.look_at-look.ensures at c.in-Some.is)

pub day_after-day-requires : goal.day_after-day-requires
day_after-day-requires c = walk_before _ _ _ _ _ _ _ _ _ c.loop-i.invariant.1 c.loop-i-test.true

pub loop-i-preserved : goal.loop-i-preserved
loop-i-preserved c = (
  search rules,
  rw c.look_at-look.ensures
      (walk-on _ _ _ _ _ _ _ _ _ c.loop-i.invariant.1 c.loop-i-test.true _ c.date_of-date.ensures _ _ c.in-Ok.ensures (rw c.look_at-look.ensures at c.in_default.is) _ c.day_after-day.ensures),
)

pub returns : goal.returns
returns c = walk_end _ _ _ _ _ _ _ _ _ c.loop-i.invariant.1 c.loop-i-test.false
