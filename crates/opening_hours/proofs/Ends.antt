-- The first day that can show something and the first that no longer can, by the calendar's direct count of days.
use mathlib.Core.Path.{◌≡◌}
use native.Mathlib.Omega.{arith}
use Rattle.calendar.specs.Calendar.{month_length, before_month, ordinal, day_number}
use Rattle.calendar.proofs.Direct.{directly}
use Rattle.intervals.specs.Intervals.{first_day, last_day}

-- THEOREM: 1900-01-01
pub first-day : day_number (record { year = 1900; month = 1; day = 1 }) ≡ first_day
unfolding day_number ordinal before_month month_length
first-day = omega (arith, directly 1900)

-- THEOREM: 10000-01-01
pub last-day : day_number (record { year = 10000; month = 1; day = 1 }) ≡ last_day
unfolding day_number ordinal before_month month_length
last-day = omega (arith, directly 10000)
