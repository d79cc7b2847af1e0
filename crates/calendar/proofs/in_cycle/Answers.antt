-- `calendar::in_cycle` meets its contract: the year counted by fours is the day's own, or the one before it, where the next has begun.
use Prim.Native.Nat.{◌*◌, ◌-◌, ◌/◌}
use native.Mathlib.Omega.{arith}
use borrow.Author.Rules.{rules}
use Rattle.calendar.specs.Calendar.{before_year}
use Rattle.calendar.specs.Parts.{InCycle}
use Rattle.calendar.proofs.Direct.{in-next, in-same}
use Rattle.calendar.proofs.in_cycle.Goals as goal
use Rattle.calendar.proofs.in_cycle.Goals.{Else-next-day}

-- where the next year has not begun, this is the day's own
same : (c : Else-next-day) → let n = c.args.day in InCycle n ((n - 1) * 4 / 1461) (n - before_year ((n - 1) * 4 / 1461))
same c =
    let n = c.args.day in
    in-same ((n - 1) * 4 / 1461) n (search rules) (omega arith) (omega arith) (omega (arith, c.before_year-next.ensures))

pub overflow_sub-result-else-next-day : goal.overflow_sub-result-else-next-day
overflow_sub-result-else-next-day c = omega (arith, c.before_year.ensures, (same (goal.at.overflow_sub-result-else-next-day c).Else-next-day).settled.counted)

pub returns-then-next-day : goal.returns-then-next-day
returns-then-next-day c =
    let n = c.args.day in
    rw c.before_year-next.ensures
    (in-next ((n - 1) * 4 / 1461) n (omega arith) (omega arith) (search rules) (omega (arith, c.before_year-next.ensures)))

pub returns-else-next-day : goal.returns-else-next-day
returns-else-next-day c = rw c.before_year.ensures (same (goal.at.returns-else-next-day c).Else-next-day)
