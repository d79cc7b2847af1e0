-- What the search asks of where it begins.
-- Assumes nothing.
use Rattle.std.specs.Prelude.{◌≤◌}
use Rattle.calendar.specs.Calendar.{leap, month_length}
use Rattle.calendar.specs.declared.Date.{Date}

-- a month of which some days have passed, perhaps none
pub record Passed (d : Date) : Type 0 where
  pub month_low : 1 ≤ d.month
  pub month_high : d.month ≤ 12
  pub day_high : d.day ≤ month_length (leap d.year) d.month
