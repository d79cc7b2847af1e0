-- Weekdays and ISO weeks: where a number lies in its year, and that the Thursdays of a year, counted, are a quotient.
-- Assumes nothing.
use mathlib.Core.Path.{◌≡◌, refl, ap, sym, ◌∙◌, subst}
use Prim.Native.Nat.{ℕ, zero, suc, ◌+◌, ◌-◌, ◌/◌, ◌%◌, ◌≤◌, ◌<◌}
use native.Mathlib.Decide.{ℕ_discrete}
use native.Mathlib.Omega.{arith}
use borrow.Author.Tests.{eq-eqb, ne_eqb}
use Rattle.calendar.specs.Calendar.{leap, month_length, before_month, before_year, year_length, ordinal, day_number, Valid, date_of, weekday, thursdays, thursday_of, iso_week}
use Rattle.calendar.specs.Parts.{Settled}
use Rattle.calendar.specs.declared.Date.{Date}
use Rattle.calendar.proofs.Days.{earlier-year, in-year, year-suc, year-low, years-low}
use Rattle.calendar.proofs.Dates.{date_of-valid, number-date_of}

-- 1 January of the year 1 is a Monday
pub first-monday : weekday (day_number (record { year = 1; month = 1; day = 1 })) ≡ 0
unfolding weekday day_number ordinal before_year year_length leap before_month month_length
first-monday = refl

-- and the weekdays follow each other
pub weekday-next : (n : ℕ) → weekday (n + 1) ≡ (weekday n + 1) % 7
unfolding weekday
weekday-next n = omega arith

-- a date's year, and its day of the year, are those of its number
pub of-date : (d : Date) → Valid d → Settled (day_number d) d.year (ordinal d)
unfolding day_number ordinal
of-date d v =
    record {
      counted = refl;
      low = omega (arith, v.day_low);
      high = in-year (leap d.year) d.month d.day v.month_high v.day_high;
    }

-- and so are those of the date that a number has
pub settled : (n : ℕ) → 1 ≤ n → Settled n (date_of n).year (ordinal (date_of n))
settled n h =
    subst (λ (k : ℕ). Settled k (date_of n).year (ordinal (date_of n))) (number-date_of n) (of-date (date_of n) (date_of-valid n h))

-- no number is in two years, nor is it two days of one
not-before : {n y z o p : ℕ} → Settled n y o → Settled n z p → y < z → ⊥
not-before {n} {y} {z} {o} {p} s t h = omega (arith, earlier-year y z o p h s.high t.low, s.counted, t.counted)

pub one-year : {n y z o p : ℕ} → Settled n y o → Settled n z p → y ≡ z
one-year s t = omega (arith, not-before s t, not-before t s)

pub one-day : {n y z o p : ℕ} → Settled n y o → Settled n z p → o ≡ p
one-day s t = omega (arith, ap before_year (one-year s t), s.counted, t.counted)

-- the Thursdays up to day k, with those before the year, are a quotient
counted : (y k : ℕ) → thursdays y k + (before_year y + 1) / 7 ≡ (before_year y + k + 1) / 7
unfolding thursdays weekday
counted y zero = omega arith
counted y (suc k) = by_cases (counted y k) (ℕ_discrete ((before_year y + suc k + 4) % 7) 3)
  where
    by_cases : thursdays y k + (before_year y + 1) / 7 ≡ (before_year y + k + 1) / 7 → Dec ((before_year y + suc k + 4) % 7 ≡ 3) →
        thursdays y (suc k) + (before_year y + 1) / 7 ≡ (before_year y + suc k + 1) / 7
    by_cases r (yes e) = simp (eq-eqb _ _ e) (omega arith)
    by_cases r (no f) = simp (ne_eqb _ _ f) (omega arith)

-- on a Thursday the quotient is that of the day of the year
thursday : (b o k : ℕ) → (b + o + 4) % 7 ≡ 3 → k + (b + 1) / 7 ≡ (b + o + 1) / 7 → k ≡ (o + 6) / 7
thursday b o k h e = omega arith

-- there are seven weekdays
pub weekday-low : (n : ℕ) → weekday n < 7
unfolding weekday
weekday-low n = omega arith

-- the day that the definition names is a Thursday
on-thursday : (n : ℕ) → 4 ≤ n → (n + 3 - weekday n + 4) % 7 ≡ 3
unfolding weekday
on-thursday n h = omega arith

-- the week of a day, by the year day of its week's Thursday
pub week-is : {n y o : ℕ} → 4 ≤ n → Settled (n + 3 - weekday n) y o → iso_week n ≡ (o + 6) / 7
unfolding iso_week thursday_of
week-is {n} {y} {o} h s =
    thursday (before_year y) o (iso_week n) (rw s.counted (on-thursday n h)) (rw there (counted y o))
  where
    t : Settled (n + 3 - weekday n) (date_of (n + 3 - weekday n)).year (ordinal (date_of (n + 3 - weekday n)))
    t = settled (n + 3 - weekday n) (omega (arith, weekday-low n))

    there : thursdays (date_of (n + 3 - weekday n)).year (ordinal (date_of (n + 3 - weekday n))) ≡ thursdays y o
    there = cc (one-year t s, one-day t s)

-- the Thursday lies in the year before, in the day's own or in the next
module _ (n y d : ℕ) (s : Settled n y d) (h : 1 ≤ y) where
  late : 4 ≤ n
  late = omega (arith, years-low y, s.counted)

  back : y - 1 + 1 ≡ y
  back = omega arith

  pub week-before : d + 3 ≤ weekday n → (d + 9 + year_length (leap (y - 1)) - weekday n) / 7 ≡ iso_week n
  week-before k =
      ap (λ x. x / 7) (omega (arith, year-low (leap (y - 1)), weekday-low n)) ∙ sym (week-is {n = n} {y = y - 1} {o = d + 3 + year_length (leap (y - 1)) - weekday n} late
      (record {
        counted = omega (arith, year-suc (y - 1), ap before_year back, s.counted, year-low (leap (y - 1)), weekday-low n);
        low = omega (arith, year-low (leap (y - 1)), weekday-low n);
        high = omega arith;
      }))

  pub week-in : weekday n < d + 3 → d + 3 - weekday n ≤ year_length (leap y) → (d + 3 - weekday n + 6) / 7 ≡ iso_week n
  week-in k l =
      sym (week-is {n = n} {y = y} {o = d + 3 - weekday n} late
      (record { counted = omega (arith, s.counted); low = omega arith; high = l }))

  pub week-after : year_length (leap y) < d + 3 - weekday n → 1 ≡ iso_week n
  week-after k =
      first ∙ sym (week-is {n = n} {y = y + 1} {o = d + 3 - weekday n - year_length (leap y)} late
      (record {
        counted = omega (arith, year-suc y, s.counted);
        low = omega arith;
        high = omega (arith, s.high, year-low (leap (y + 1)));
      }))
    where
      first : 1 ≡ (d + 3 - weekday n - year_length (leap y) + 6) / 7
      first = omega (arith, s.high)
