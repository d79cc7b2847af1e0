-- What is answered to each question about dates. A question about what does not exist is refused by 7, place 0.
-- Assumes nothing.
use Rattle.std.specs.Prelude.{ℕ, ℤ, ◌&&◌, pos, ◌-ℤ◌, Result}
use Rattle.refusals.specs.declared.Refusal.{Refusal}
use Rattle.calendar.specs.Calendar.{leap, month_length, day_number, date_of, weekday, iso_week}
use Rattle.calendar.specs.declared.Date.{Date}
use Rattle.easter.specs.Easter.{easter_number}
use Rattle.dates.specs.Exists.{in_years, is_month, is_date}
use Rattle.dates.specs.Answers.{answered}

-- how many days a month has
unfoldable pub length_answer : ℕ → ℕ → Result ℕ Refusal
length_answer y m = answered (is_month y m) (month_length (leap y) m)

-- the weekday, 0 Monday to 6 Sunday
unfoldable pub weekday_answer : Date → Result ℕ Refusal
weekday_answer d = answered (is_date d) (weekday (day_number d))

-- the number of the ISO week
unfoldable pub week_answer : Date → Result ℕ Refusal
week_answer d = answered (is_date d) (iso_week (day_number d))

-- the date of Easter Sunday
unfoldable pub easter_answer : ℕ → Result Date Refusal
easter_answer y = answered (in_years y) (date_of (easter_number y))

-- the days from one date to another
unfoldable pub apart_answer : Date → Date → Result ℤ Refusal
apart_answer a b = answered (is_date a && is_date b) (pos (day_number b) -ℤ pos (day_number a))
