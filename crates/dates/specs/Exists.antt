-- Which dates and months there are to ask about.
-- Assumes nothing.
use Rattle.std.specs.Prelude.{ℕ, Bool, ◌&&◌, leb}
use Rattle.calendar.specs.Calendar.{leap, month_length}
use Rattle.calendar.specs.declared.Date.{Date}

-- the years 1 to 12000
unfoldable pub in_years : ℕ → Bool
in_years y = leb 1 y && leb y 12000

-- a month of such a year
unfoldable pub is_month : ℕ → ℕ → Bool
is_month y m = in_years y && (leb 1 m && leb m 12)

-- a day of such a month
unfoldable pub is_date : Date → Bool
is_date d = is_month d.year d.month && (leb 1 d.day && leb d.day (month_length (leap d.year) d.month))
