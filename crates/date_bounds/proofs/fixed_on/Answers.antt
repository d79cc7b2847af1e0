-- The day stands in its month, or past it; the calls give the month.
use Prim.Native.Nat.{◌+◌}
use native.Mathlib.Omega.{arith}
use Rattle.date_bounds.proofs.OnYear.{MonthAt, month-at, in-month, past-month, past-high}
use Rattle.date_bounds.proofs.fixed_on.Goals as goal
use Rattle.date_bounds.proofs.fixed_on.Goals.{After-before_month}

-- the month's start and length, from the calls
given : (c : After-before_month) →
    MonthAt c.args.on.year c.args.month (c.args.on.before + c.before_month.result) c.month_length-length.result
given c =
    month-at c.args.on.year c.args.month (record { is = c.args.on.counted; low = c.args.on.low; high = c.args.on.high }) c.requires.0 c.is_leap-leap.ensures c.before_month.ensures c.month_length-length.ensures

pub overflow_add-start : goal.overflow_add-start
overflow_add-start c = omega (arith, (given (goal.at.overflow_add-start c).After-before_month).near)

pub overflow_add-result : goal.overflow_add-result
overflow_add-result c = omega (arith, (given (goal.at.overflow_add-result c).After-before_month).near, c.requires)

pub overflow_add-result-else-day-length : goal.overflow_add-result-else-day-length
overflow_add-result-else-day-length c = omega (arith, (given (goal.at.overflow_add-result-else-day-length c).After-before_month).near, (given (goal.at.overflow_add-result-else-day-length c).After-before_month).few)

pub overflow_add-result-else-day-length-2 : goal.overflow_add-result-else-day-length-2
overflow_add-result-else-day-length-2 c = omega (arith, (given (goal.at.overflow_add-result-else-day-length-2 c).After-before_month).near, (given (goal.at.overflow_add-result-else-day-length-2 c).After-before_month).few, past-high c.args.side)

pub returns-then-day-length : goal.returns-then-day-length
returns-then-day-length c =
    let a = c.args in
    let g = given (goal.at.returns-then-day-length c).After-before_month in
    omega (arith, g.at, in-month a.side a.on.year a.month a.day (omega (arith, g.days)))

pub returns-else-day-length : goal.returns-else-day-length
returns-else-day-length c =
    let a = c.args in
    let g = given (goal.at.returns-else-day-length c).After-before_month in
    omega (arith, g.at, g.days, past-month a.side a.on.year a.month a.day (omega (arith, g.days)))
