-- A date and its number determine each other: what the next day is, and what the sums of years and months are, come to the same.
-- Assumes nothing.
use mathlib.Core.Path.{◌≡◌, refl, ap, sym, ◌∙◌}
use Prim.Native.Nat.{ℕ, zero, suc, ◌+◌, ◌-◌, ◌≤◌, ◌<◌}
use native.Mathlib.Decide.{dec_lt}
use native.Mathlib.Omega.{arith}
use borrow.Author.Tests.{lt-ltb, le-ltb}
use Rattle.calendar.specs.Calendar.{leap, month_length, before_month, before_year, ordinal, day_number, Valid, next, date_of}
use Rattle.calendar.specs.Parts.{Settled, InMonth}
use Rattle.calendar.specs.declared.Date.{Date}
use Rattle.calendar.proofs.Days.{year-suc, month-suc, whole-year, no-month, length-low, in-year, earlier-year, earlier-month}

-- the length of a date's month
abbrev len : Date → ℕ
len d = month_length (leap d.year) d.month

-- a date, or the day before a month's first
record Near (d : Date) : Type 0 where
  month_low : 1 ≤ d.month
  month_high : d.month ≤ 12
  day_high : d.day ≤ len d

-- the three cases of the next day
module _ (d : Date) where
  next-day : d.day < len d → next d ≡ record { year = d.year; month = d.month; day = d.day + 1 }
  unfolding next
  next-day h = simp (lt-ltb _ _ h)

  next-month : len d ≤ d.day → d.month < 12 → next d ≡ record { year = d.year; month = d.month + 1; day = 1 }
  unfolding next
  next-month h k = simp (le-ltb _ _ h, lt-ltb _ _ k)

  next-year : len d ≤ d.day → 12 ≤ d.month → next d ≡ record { year = d.year + 1; month = 1; day = 1 }
  unfolding next
  next-year h k = simp (le-ltb _ _ h, le-ltb _ _ k)

  -- the next day is a date, with the next number
  next-valid : Near d → Valid (next d)
  next-valid v = by_cases (dec_lt d.day (len d)) (dec_lt d.month 12)
    where
      by_cases : Dec (d.day < len d) → Dec (d.month < 12) → Valid (next d)
      by_cases (yes h) m =
          rw (next-day h)
          (record { month_low = v.month_low; month_high = v.month_high; day_low = omega arith; day_high = omega arith })
      by_cases (no h) (yes k) =
          rw (next-month (omega arith) k)
          (record { month_low = omega arith; month_high = omega arith; day_low = omega arith; day_high = omega (arith, length-low (leap d.year) (d.month + 1) (omega arith) (omega arith)) })
      by_cases (no h) (no k) =
          rw (next-year (omega arith) (omega arith))
          (record { month_low = omega arith; month_high = omega arith; day_low = omega arith; day_high = omega (arith, length-low (leap (d.year + 1)) 1 (omega arith) (omega arith)) })

  last : Near d → (d.month < 12 → ⊥) → d.month ≡ 12
  last v k = omega (arith, v.month_high)

  next-number : Near d → day_number (next d) ≡ day_number d + 1
  unfolding day_number ordinal
  next-number v = by_cases (dec_lt d.day (len d)) (dec_lt d.month 12)
    where
      by_cases : Dec (d.day < len d) → Dec (d.month < 12) → day_number (next d) ≡ day_number d + 1
      by_cases (yes h) m = rw (next-day h) (omega arith)
      by_cases (no h) (yes k) = rw (next-month (omega arith) k) (omega (arith, v.day_high, month-suc (leap d.year) d.month))
      by_cases (no h) (no k) =
          rw (next-year (omega arith) (omega arith))
          (omega (
            arith,
            v.day_high,
            year-suc d.year,
            no-month (leap (d.year + 1)),
            whole-year (leap d.year),
            month-suc (leap d.year) d.month,
            ap (λ m. before_month (leap d.year) (m + 1)) (last v k),
          ))

-- every number's date is one, or (number 0) lies just before the first
near : (d : Date) → Valid d → Near d
near d v = record { month_low = v.month_low; month_high = v.month_high; day_high = v.day_high }

all_near : (n : ℕ) → Near (date_of n)
unfolding date_of
all_near zero = record { month_low = omega arith; month_high = omega arith; day_high = omega arith }
all_near (suc n) = near (next (date_of n)) (next-valid (date_of n) (all_near n))

-- each number from 1 is a date's, and that date has it
pub date_of-valid : (n : ℕ) → 1 ≤ n → Valid (date_of n)
unfolding date_of
date_of-valid zero h = absurd (omega arith)
date_of-valid (suc n) h = next-valid (date_of n) (all_near n)

none : day_number (date_of 0) ≡ 0
unfolding date_of day_number ordinal before_year
none = omega (arith, no-month (leap 0))

pub number-date_of : (n : ℕ) → day_number (date_of n) ≡ n
unfolding date_of
number-date_of zero = none
number-date_of (suc n) = omega (arith, next-number (date_of n) (all_near n), number-date_of n)

-- a date comes before another by its year, else its month, else its day
pub data Before (d e : Date) : Type 0 where
  by-year : d.year < e.year → Before d e
  by-month : d.year ≡ e.year → d.month < e.month → Before d e
  by-day : d.year ≡ e.year → d.month ≡ e.month → d.day < e.day → Before d e

-- what comes before has a lower number
pub in_order : (d e : Date) → Valid d → Valid e → Before d e → day_number d < day_number e
unfolding day_number ordinal
in_order d e v w (by-year h) =
    earlier-year d.year e.year (before_month (leap d.year) d.month + d.day) (before_month (leap e.year) e.month + e.day) h
    (in-year (leap d.year) d.month d.day v.month_high v.day_high)
    (omega (arith, w.day_low))
in_order d e v w (by-month p h) =
    omega (
      arith,
      earlier-month (leap d.year) d.month e.month d.day e.day h v.day_high w.day_low,
      ap (λ y. before_month (leap y) e.month) p,
      ap before_year p,
    )
in_order d e v w (by-day p q h) =
    omega (arith, ap (λ y. before_month (leap y) d.month) p, ap (before_month (leap e.year)) q, ap before_year p)

-- so that a number has one date at most: of two dates with one number neither comes before the other
record Same (d e : Date) : Type 0 where
  v : Valid d
  w : Valid e
  same : day_number d ≡ day_number e

turned : (d e : Date) → Same d e → Same e d
turned d e s = record { v = s.w; w = s.v; same = sym s.same }

neither : (d e : Date) → Same d e → Before d e → ⊥
neither d e s b = omega (arith, in_order d e s.v s.w b, s.same)

not-year : (d e : Date) → Same d e → d.year < e.year → ⊥
not-year d e s h = neither d e s (by-year h)

year-is : (d e : Date) → Same d e → d.year ≡ e.year
year-is d e s = omega (arith, not-year d e s, not-year e d (turned d e s))

not-month : (d e : Date) → Same d e → d.month < e.month → ⊥
not-month d e s h = neither d e s (by-month (year-is d e s) h)

month-is : (d e : Date) → Same d e → d.month ≡ e.month
month-is d e s = omega (arith, not-month d e s, not-month e d (turned d e s))

not-day : (d e : Date) → Same d e → d.day < e.day → ⊥
not-day d e s h = neither d e s (by-day (year-is d e s) (month-is d e s) h)

day-is : (d e : Date) → Same d e → d.day ≡ e.day
day-is d e s = omega (arith, not-day d e s, not-day e d (turned d e s))

-- equal in all parts is equal
made : (y z m n a b : ℕ) → y ≡ z → m ≡ n → a ≡ b →
    ◌≡◌ {A = Date} (record { year = y; month = m; day = a }) (record { year = z; month = n; day = b })
made y z m n a b p q r = cc

pub unique : (d e : Date) → Valid d → Valid e → day_number d ≡ day_number e → d ≡ e
unique d e v w h = made d.year e.year d.month e.month d.day e.day (year-is d e s) (month-is d e s) (day-is d e s)
  where
    s : Same d e
    s = record { v = v; w = w; same = h }

-- a date has a number from 1 on
positive : (d : Date) → Valid d → 1 ≤ day_number d
unfolding day_number ordinal
positive d v = omega (arith, v.day_low)

-- a date is the date of its number
pub date_of-number : (d : Date) → Valid d → (n : ℕ) → 1 ≤ n → day_number d ≡ n → d ≡ date_of n
date_of-number d v n h e = unique d (date_of n) v (date_of-valid n h) (e ∙ sym (number-date_of n))

-- so that number and date are each other's inverse
pub date_of-day_number : (d : Date) → Valid d → date_of (day_number d) ≡ d
date_of-day_number d v = sym (date_of-number d v (day_number d) (positive d v) refl)

-- the date, from a day of the year and its month
pub assembled : {n y o m : ℕ} → Settled n y o → InMonth (leap y) o m →
    ◌≡◌ {A = Date} (record { year = y; month = m; day = o - before_month (leap y) m }) (date_of n)
unfolding day_number ordinal
assembled {n} {y} {o} {m} s i =
    date_of-number (record { year = y; month = m; day = o - before_month (leap y) m })
    (record { month_low = i.month_low; month_high = i.month_high; day_low = omega arith; day_high = omega (arith, month-suc (leap y) m) })
    n
    (omega arith)
    (omega arith)
