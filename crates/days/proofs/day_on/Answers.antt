-- `days::day_on` meets its contract: a date's year and day of the year settle its number, and that is all that `day_in` asks.
use Rattle.std.proofs.Common.{◌≡◌, ◌+◌, arith, rules, ap, ◌∙◌}
use Rattle.calendar.specs.Calendar.{ordinal, day_number}
use Rattle.calendar.proofs.Days.{year-high, years-high}
use Rattle.calendar.proofs.Weeks.{of-date}
use Rattle.days.specs.DayOf.{day_of}
use Rattle.days.proofs.day_on.Goals as goal
use Rattle.days.proofs.day_on.Goals.{After-before_year}

pub overflow_add-ordinal : goal.overflow_add-ordinal
unfolding ordinal
overflow_add-ordinal c = grind (arith, (of-date c.args.date c.requires.0).high, year-high)

-- the days of the years before make it the date's number
number : (c : After-before_year) →
    c.before_year.result + (c.before_month.result + c.args.date.day) ≡ day_number c.args.date
unfolding day_number ordinal
number c = grind arith

pub overflow_add-before_year : goal.overflow_add-before_year
unfolding ordinal
overflow_add-before_year c = grind (arith, (of-date c.args.date c.requires.0).high, year-high, years-high)

pub day_in-requires : goal.day_in-requires
unfolding ordinal
day_in-requires c =
    let s = of-date c.args.date c.requires.0 in (
      rw (number (goal.at.day_in-requires c).After-before_year, c.before_month.ensures, c.is_leap.ensures) s,
      search rules,
      search rules,
      grind (arith, s.high, year-high, years-high),
    )

pub returns : goal.returns
returns c = c.day_in.ensures ∙ ap day_of (number (goal.at.returns c).After-before_year)
