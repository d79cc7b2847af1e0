-- The proleptic Gregorian calendar. Days are counted from 1 January of the year 0, which is day 1.
-- Assumes nothing.
use Rattle.std.specs.Prelude.{ℕ, zero, suc, ◌+◌, ◌-◌, ◌%◌, ◌≤◌, Bool, cond, [], ◌∷◌, eqb, ltb, get_or}
use Rattle.calendar.specs.declared.Date.{Date}

-- every fourth year is a leap year, of the centuries every fourth
unfoldable pub leap : ℕ → Bool
leap y = cond (eqb (y % 100) 0) (eqb (y % 400) 0) (eqb (y % 4) 0)

-- the days of a month, 1 to 12, of a leap year or a common year (and 0 of any other)
unfoldable pub month_length : Bool → ℕ → ℕ
month_length l m = get_or (0 ∷ 31 ∷ cond l 29 28 ∷ 31 ∷ 30 ∷ 31 ∷ 30 ∷ 31 ∷ 31 ∷ 30 ∷ 31 ∷ 30 ∷ 31 ∷ []) m 0

-- the days of the months before month m
unfoldable pub before_month : Bool → ℕ → ℕ
before_month l zero = 0
before_month l (suc m) = before_month l m + month_length l m

-- the days of a leap year, or of a common one
unfoldable pub year_length : Bool → ℕ
year_length l = cond l 366 365

-- the days of the years 0 to y - 1, counted year by year
unfoldable pub before_year : ℕ → ℕ
before_year zero = 0
before_year (suc y) = before_year y + year_length (leap y)

-- the day of the year, 1 to 366
unfoldable pub ordinal : Date → ℕ
ordinal d = before_month (leap d.year) d.month + d.day

-- the number of a date: the days of the years before, of the months before, and its own
unfoldable pub day_number : Date → ℕ
day_number d = before_year d.year + ordinal d

-- there is such a date
pub record Valid (d : Date) : Type 0 where
  pub month_low : 1 ≤ d.month
  pub month_high : d.month ≤ 12
  pub day_low : 1 ≤ d.day
  pub day_high : d.day ≤ month_length (leap d.year) d.month

-- the next day: in the month, else the next month's first, else the next year's first
unfoldable pub next : Date → Date
next d =
    cond (ltb d.day (month_length (leap d.year) d.month))
    (record { year = d.year; month = d.month; day = d.day + 1 })
    (cond (ltb d.month 12)
    (record { year = d.year; month = d.month + 1; day = 1 })
    (record { year = d.year + 1; month = 1; day = 1 }))

-- the date with a number: 1 January of the year 0 is day 1, and each day's next has the next number. (Number 0 is no date.)
unfoldable pub date_of : ℕ → Date
date_of zero = record { year = 0; month = 1; day = 0 }
date_of (suc n) = next (date_of n)

-- 0 Monday to 6 Sunday, in turn; 1 January of the year 1 is a Monday
unfoldable pub weekday : ℕ → ℕ
weekday n = (n + 4) % 7

-- the Thursdays among the first k days of year y
unfoldable pub thursdays : ℕ → ℕ → ℕ
thursdays y zero = 0
thursdays y (suc k) = thursdays y k + cond (eqb (weekday (before_year y + suc k)) 3) 1 0

-- the Thursday of a day's week, Monday to Sunday
unfoldable pub thursday_of : ℕ → Date
thursday_of n = date_of (n + 3 - weekday n)

-- ISO 8601: a week belongs to the year that has its Thursday, and its number is how many Thursdays that year has had
unfoldable pub iso_week : ℕ → ℕ
iso_week n = thursdays (thursday_of n).year (ordinal (thursday_of n))
