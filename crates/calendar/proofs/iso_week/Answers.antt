-- `calendar::iso_week` meets its contract: the Thursday of the week lies in the year before, in this year or in the next, and its day of that year gives the week.
use Rattle.std.proofs.Common.{◌-◌, arith, rules}
use Rattle.calendar.specs.Calendar.{leap}
use Rattle.calendar.proofs.Days.{year-low, year-high}
use Rattle.calendar.proofs.Weeks.{week-before, week-in, week-after, weekday-low}
use Rattle.calendar.proofs.iso_week.Goals as goal

pub overflow_add-result-then-day-weekday : goal.overflow_add-result-then-day-weekday
overflow_add-result-then-day-weekday c = omega (arith, year-high (leap (c.args.year - 1)), year-high (leap c.args.year))

pub overflow_sub-result : goal.overflow_sub-result
overflow_sub-result c = omega (arith, year-low (leap (c.args.year - 1)), weekday-low c.args.number)

pub returns-then-day-weekday : goal.returns-then-day-weekday
returns-then-day-weekday c =
    rw (c.weekday_of-weekday.ensures, c.year_length.ensures)
    (week-before _ _ _ c.requires.0 (search rules) (omega arith))

pub returns-then-thursday-year_length : goal.returns-then-thursday-year_length
returns-then-thursday-year_length c =
    rw c.weekday_of-weekday.ensures
    (week-in _ c.args.year _ c.requires.0 (search rules) (omega arith) (omega arith))

pub returns : goal.returns
returns c = week-after _ _ _ c.requires.0 (search rules) (omega arith)
