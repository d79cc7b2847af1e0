-- Years next to each other differ by a length.
use mathlib.Core.Path.{ap}
use native.Mathlib.Omega.{arith}
use Rattle.calendar.specs.Calendar.{leap, before_year}
use Rattle.calendar.proofs.Days.{year-suc, year-high, years-high}
use Rattle.date_bounds.proofs.YearStart.before_near.Goals as goal

pub overflow_add-result : goal.overflow_add-result
overflow_add-result c =
    omega (arith, c.year_length.ensures, year-high (leap c.args.self.year), years-high c.args.self.year, c.args.self.counted, c.args.self.high)

pub returns-then-year-self-2 : goal.returns-then-year-self-2
returns-then-year-self-2 c =
    omega (arith, c.year_length.ensures, year-suc c.args.self.year, ap before_year c.if-year-self-2.true, c.args.self.counted)

pub overflow_sub-result : goal.overflow_sub-result
overflow_sub-result c =
    omega (arith, c.year_length-then-year-self-3.ensures, year-suc c.args.year, ap before_year c.if-year-self-3.true, c.args.self.counted)

pub returns-then-year-self-3 : goal.returns-then-year-self-3
returns-then-year-self-3 c =
    omega (arith, c.year_length-then-year-self-3.ensures, year-suc c.args.year, ap before_year c.if-year-self-3.true, c.args.self.counted)
