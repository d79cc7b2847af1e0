-- The calls give the month; nth comes back from its bits.
use mathlib.Core.Path.{◌∙◌}
use Prim.Native.Nat.{◌+◌}
use native.Mathlib.Omega.{arith}
use Rattle.date_bounds.proofs.OnYear.{MonthAt, month-at, nth-again, nth-made}
use Rattle.date_bounds.proofs.nth_on.Goals as goal
use Rattle.date_bounds.proofs.nth_on.Goals.{After-before_month}

-- the month's start and length, from the calls
given : (c : After-before_month) →
    MonthAt c.args.on.year c.args.month (c.args.on.before + c.before_month.result) c.month_length-length.result
given c =
    month-at c.args.on.year c.args.month (record { is = c.args.on.counted; low = c.args.on.low; high = c.args.on.high }) c.requires.0 c.is_leap-leap.ensures c.before_month.ensures c.month_length-length.ensures

pub overflow_add-start : goal.overflow_add-start
overflow_add-start c = omega (arith, (given (goal.at.overflow_add-start c).After-before_month).near)

pub nth_in-requires : goal.nth_in-requires
nth_in-requires c =
    ((given (goal.at.nth_in-requires c).After-before_month).near, (given (goal.at.nth_in-requires c).After-before_month).few, c.requires.1, nth-again c.args.nth c.requires.2)

pub returns : goal.returns
returns c =
    let a = c.args in
    c.nth_in.ensures ∙ nth-made a.on.year a.month a.weekday a.nth c.requires.2 (given (goal.at.returns c).After-before_month)
