-- What the items of a rule say of a day, but for dates and holidays.
-- Assumes nothing.
use Rattle.std.specs.Prelude.{ℕ, ◌+◌, ◌-◌, ◌/◌, ◌%◌, ◌^◌, Bool, cond, ◌&&◌, ◌||◌, eqb, leb, ℤ}
use Rattle.calendar.specs.Calendar.{day_number}
use Rattle.calendar.specs.Moved.{moved_back}
use Rattle.days.specs.declared.Day.{Day}
use Rattle.days.specs.DayOf.{day_of}
use Rattle.rules.specs.declared.YearItem.{YearItem}
use Rattle.rules.specs.declared.WeekItem.{WeekItem}

-- start ≤ x ≤ end and (x - start) divisible by step; start > end matches nothing
unfoldable pub stepped : ℕ → ℕ → ℕ → ℕ → Bool
stepped start end step x = leb start x && (leb x end && eqb ((x - start) % step) 0)

unfoldable pub year_matches : YearItem → Day → Bool
year_matches i d = stepped i.start i.end i.step d.year

-- likewise on the ISO week number
unfoldable pub week_matches : WeekItem → Day → Bool
week_matches i d = stepped i.start i.end i.step d.week

-- x lies in start..end, circular
unfoldable pub circular : ℕ → ℕ → ℕ → Bool
circular start end x = cond (leb start end) (leb start x && leb x end) (leb start x || leb x end)

-- one of five flags, index 0 first
unfoldable pub flag : ℕ → ℕ → Bool
flag flags i = eqb (flags / 2 ^ (4 - i) % 2) 1

-- a day's weekday lies in start..end, and its flag from the start, index (day - 1) / 7, or from the end, index (month length - day) / 7, is set
unfoldable pub weekday_on : ℕ → ℕ → ℕ → ℕ → Day → Bool
weekday_on start end firsts lasts d =
    circular start end d.weekday && (flag firsts ((d.day - 1) / 7) || flag lasts ((d.length - d.day) / 7))

-- date - offset
unfoldable pub shifted : Day → ℤ → Day
shifted d offset = day_of (moved_back d.number offset)

-- take date - offset
unfoldable pub weekday_matches : ℕ → ℕ → ℕ → ℕ → ℤ → Day → Bool
weekday_matches start end firsts lasts offset d = weekday_on start end firsts lasts (shifted d offset)

-- months without year: circular range
unfoldable pub months_match : ℕ → ℕ → Day → Bool
months_match start end d = circular start end d.month

-- the number of the 1st of a month
unfoldable pub first_of : ℕ → ℕ → ℕ
first_of year month = day_number (record { year = year; month = month; day = 1 })

-- the 1st of the end month, in that year, or the next year if earlier
unfoldable pub last_of : ℕ → ℕ → ℕ → ℕ
last_of year start end = cond (leb (first_of year start) (first_of year end)) (first_of year end) (first_of (year + 1) end)

-- months with year: from the 1st of the start month to the 1st of the end month, inclusive
unfoldable pub year_months_match : ℕ → ℕ → ℕ → Day → Bool
year_months_match year start end d = leb (first_of year start) d.number && leb d.number (last_of year start end)
