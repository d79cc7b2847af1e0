-- `days::day_in` meets its contract: every part is the calendar's for this year, day of the year and month.
use native.Mathlib.Omega.{arith}
use Rattle.days.proofs.Laws.{whole-day}
use borrow.Author.Rules.{rules}
use Rattle.days.proofs.day_in.Goals as goal

pub month_of-month-requires : goal.month_of-month-requires
month_of-month-requires c = (search rules, rw c.is_leap-leap.ensures c.requires.0.high)

pub returns : goal.returns
returns c =
    let l = c.is_leap-leap.ensures in
    rw (
      c.iso_week-week.ensures,
      c.weekday_of-weekday.ensures,
      c.month_length-length.ensures,
      c.before_month.ensures,
      l,
    )
    (whole-day (omega arith) c.requires.0 (rw l at c.month_of-month.ensures))
