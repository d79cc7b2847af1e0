-- `calendar::month_of` meets its contract: the month counted by 31 days is the day's own, or the one before it, where the next has begun.
use Prim.Native.Nat.{◌-◌, ◌/◌}
use native.Mathlib.Omega.{arith}
use Rattle.calendar.proofs.Days.{year-high, in-next-month, in-same-month}
use Rattle.calendar.proofs.month_of.Goals as goal

pub before_month-requires : goal.before_month-requires
before_month-requires c = omega (arith, year-high c.args.leap)

pub returns-then-before_month-day : goal.returns-then-before_month-day
returns-then-before_month-day c =
    let a = c.args in
    in-next-month a.leap a.day ((a.day - 1) / 31) (omega arith) (omega (arith, year-high a.leap)) c.requires.1 (omega (arith, c.before_month.ensures))

pub returns-else-before_month-day : goal.returns-else-before_month-day
returns-else-before_month-day c =
    let a = c.args in
    in-same-month a.leap a.day ((a.day - 1) / 31) (omega arith) (omega (arith, year-high a.leap)) (omega (arith, c.before_month.ensures))
