-- Easter by the Gregorian reckoning: the Sunday after the paschal full moon, which the golden number and the epact give.
-- Assumes nothing.
use Rattle.std.specs.Prelude.{ℕ, ◌+◌, ◌*◌, ◌-◌, ◌/◌, ◌%◌, cond, ◌&&◌, ◌||◌, eqb, leb}
use Rattle.calendar.specs.Calendar.{leap, before_month, before_year, weekday}

-- the year's place in the cycle of 19 years, 1 to 19
unfoldable pub golden : ℕ → ℕ
golden y = y % 19 + 1

-- the sun's correction: three leap days of four centuries fall out
unfoldable pub sun : ℕ → ℕ
sun y = y / 100 - y / 400

-- the moon's: eight days in 25 centuries
unfoldable pub moon : ℕ → ℕ
moon y = (8 * (y / 100) + 13) / 25

-- the age of the moon on 1 January, eleven days more with each year of the cycle. 240, a multiple of 30, keeps the difference from falling below 0
unfoldable pub epact : ℕ → ℕ
epact y = (11 * (golden y - 1) + 8 + moon y + 240 - sun y) % 30

-- the epact as it is used: 24 counts as 25, and in the years 12 to 19 of the cycle 25 as 26
unfoldable pub used_epact : ℕ → ℕ
used_epact y = cond (eqb (epact y) 24 || (eqb (epact y) 25 && leb 12 (golden y))) (epact y + 1) (epact y)

-- the paschal full moon, as a day counted from the last of February: 21 March with the epact 23, and a day earlier with each day of age, by the cycle of 30
unfoldable pub full_moon : ℕ → ℕ
full_moon y = 21 + (53 - used_epact y) % 30

-- the first Sunday after day n
unfoldable pub sunday_after : ℕ → ℕ
sunday_after n = n + 7 - (weekday n + 1) % 7

-- the number of Easter Sunday
unfoldable pub easter_number : ℕ → ℕ
easter_number y = sunday_after (before_year y + before_month (leap y) 3 + full_moon y)
