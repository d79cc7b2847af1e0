-- The steps from a number to its date: the year and the day of it, then the month.
-- Assumes nothing.
use Rattle.std.specs.Prelude.{ℕ, ◌+◌, ◌≤◌, ◌<◌, Bool, ◌≡◌}
use Rattle.calendar.specs.Calendar.{leap, before_month, before_year, year_length}

-- day d of year y is the day of number n
pub record Settled (n y d : ℕ) : Type 0 where
  pub counted : before_year y + d ≡ n
  pub low : 1 ≤ d
  pub high : d ≤ year_length (leap y)

-- the same in the years 0 to 399, after which the calendar repeats
pub record InCycle (n y d : ℕ) : Type 0 where
  pub settled : Settled n y d
  pub within : y < 400

-- day d of a year lies in month m
pub record InMonth (l : Bool) (d m : ℕ) : Type 0 where
  pub month_low : 1 ≤ m
  pub month_high : m ≤ 12
  pub after : before_month l m < d
  pub upto : d ≤ before_month l (m + 1)
