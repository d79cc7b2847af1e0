-- A day's record is made of its parts and says them, and a number's year lies between two bounds.
-- Assumes nothing.
use mathlib.Core.Path.{◌≡◌, ap, sym, subst}
use Prim.Native.Nat.{ℕ, ◌+◌, ◌*◌, ◌-◌, ◌≤◌, ◌<◌}
use native.Mathlib.Omega.{arith}
use Rattle.calendar.specs.Calendar.{leap, month_length, before_month, before_year, year_length, ordinal, date_of, weekday, iso_week}
use Rattle.calendar.specs.Parts.{Settled, InMonth}
use Rattle.calendar.specs.declared.Date.{Date}
use Rattle.calendar.proofs.Days.{year-suc, year-high, years-low, years-high}
use Rattle.calendar.proofs.Dates.{assembled}
use Rattle.calendar.proofs.Weeks.{settled, one-day}
use Rattle.days.specs.DayOf.{day_of}
use Rattle.days.specs.declared.Day.{Day}

abbrev day : ℕ → ℕ → ℕ → ℕ → ℕ → ℕ → Day
day n y o m d l = record { number = n; year = y; ordinal = o; month = m; day = d; weekday = weekday n; length = l; week = iso_week n }

-- a number, its year and day of the year, and the month of that day make the day's record
pub whole-day : {n y o m : ℕ} → 1 ≤ n → Settled n y o → InMonth (leap y) o m →
    day n y o m (o - before_month (leap y) m) (month_length (leap y) m) ≡ day_of n
unfolding day_of
whole-day {n} {y} {o} {m} h s i = parts (assembled s i) (one-day s (settled n h))
  where
    parts : ◌≡◌ {A = Date} (record { year = y; month = m; day = o - before_month (leap y) m }) (date_of n) → o ≡ ordinal (date_of n) →
        day n y o m (o - before_month (leap y) m) (month_length (leap y) m) ≡ day_of n
    parts e q =
        rw (q)
        (ap (λ (d : Date). day n d.year (ordinal (date_of n)) d.month d.day (month_length (leap d.year) d.month)) (rw q at e))

-- the record of a day says where it lies
pub known : (d : Day) → d ≡ day_of d.number → 1 ≤ d.number → Settled d.number d.year d.ordinal
unfolding day_of
known d e h = subst (λ (x : Day). Settled d.number x.year x.ordinal) (sym e) (settled d.number h)

-- two years back, by the lengths of the two
two_up : (y : ℕ) → 2 ≤ y → y - 2 + 1 + 1 ≡ y
two_up y h = omega arith

pub two_back : (y : ℕ) → 2 ≤ y → before_year (y - 2) + year_length (leap (y - 2)) + year_length (leap (y - 2 + 1)) ≡ before_year y
two_back y h = omega (arith, year-suc (y - 2), year-suc (y - 2 + 1), ap before_year (two_up y h))

-- how late and how early the year of a number can be
pub year-from : {n y d k : ℕ} → Settled n y d → 366 * k + 366 < n → k < y
year-from {n} {y} {d} {k} s h = omega (arith, years-high y, year-high (leap y), s.counted, s.high)

pub year-to : {n y d k : ℕ} → Settled n y d → n < 365 * k → y < k
year-to {n} {y} {d} {k} s h = omega (arith, years-low y, s.counted)
