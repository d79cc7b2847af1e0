-- The formula gives the reckoning's Easter: one test over all years, with the days before a year taken directly, and its day as a date.
-- Assumes nothing.
use Prim.Native.Nat.{ℕ, ◌+◌, ◌*◌, ◌-◌, ◌/◌, ◌%◌, ◌≤◌, ◌<◌}
use mathlib.Core.Bool.{Bool, true, false}
use mathlib.Core.Path.{◌≡◌, refl, ◌∙◌, subst₂}
use native.Mathlib.Nat.{mod-lt}
use native.Mathlib.Decide.{dec_lt}
use native.Mathlib.Omega.{arith}
use lib.Dec.{T, eqb, eqb→eq, lit<}
use Rattle.calendar.specs.Calendar.{leap, before_month, month_length, before_year, weekday, ordinal, day_number, Valid, date_of}
use Rattle.calendar.specs.declared.Date.{Date}
use Rattle.calendar.proofs.Direct.{directly}
use Rattle.calendar.proofs.Days.{month-suc}
use Rattle.calendar.proofs.Dates.{date_of-number}
use Rattle.calendar.proofs.Upto.{upto, holds}
use Rattle.easter.specs.Easter.{golden, sun, moon, epact, used_epact, full_moon, sunday_after, easter_number}

-- the formula's steps, by the names that the code has for them
unfoldable pub h-of : ℕ → ℕ
h-of y = (19 * (y % 19) + y / 100 - y / 100 / 4 - (y / 100 - (y / 100 + 8) / 25 + 1) / 3 + 15) % 30

unfoldable pub l-of : ℕ → ℕ
l-of y = (32 + 2 * (y / 100 % 4) + 2 * (y % 100 / 4) - h-of y - y % 100 % 4) % 7

unfoldable pub m-of : ℕ → ℕ
m-of y = (y % 19 + 11 * h-of y + 22 * l-of y) / 451

-- Easter Sunday as a day counted from the last of February
pub march : ℕ → ℕ
march y = h-of y + l-of y + 22 - 7 * m-of y

-- the days before a year and before its March, quick to compute
direct : ℕ → ℕ
direct y = 365 * y + (y + 3) / 4 + (y + 399) / 400 - (y + 99) / 100

before : ℕ → ℕ
before y = direct y + before_month (leap y) 3

-- formula and reckoning agree on a year
test : ℕ → Bool
test y = eqb (before y + march y) (sunday_after (before y + full_moon y))

-- one test over the years 0 to 12000, which antt computes
years : T (upto test 12001)
unfolding test march m-of l-of h-of before direct before_month month_length leap sunday_after weekday full_moon used_epact epact sun moon golden
years = tt

-- it is the same number of days
direct_is : (y : ℕ) → direct y ≡ before_year y
unfolding direct
direct_is y = omega (arith, directly y)

-- so they agree on each
tested : (y : ℕ) → y ≤ 12000 → before y + march y ≡ sunday_after (before y + full_moon y)
unfolding test
tested y h = eqb→eq (before y + march y) (sunday_after (before y + full_moon y)) (holds test 12001 years y (omega arith))

-- in the definition's own words
pub right : (y : ℕ) → y ≤ 12000 → before_year y + before_month (leap y) 3 + march y ≡ easter_number y
unfolding easter_number before
right y h = rw (direct_is y) at (tested y h)

-- the day is 22 March to 25 April, whatever the year
module _ (a h l : ℕ) (i : a < 19) (j : h < 30) (k : l < 7) where
  low : 22 + 7 * ((a + 11 * h + 22 * l) / 451) ≤ h + l + 22
  low = omega arith

  high : h + l + 22 ≤ 56 + 7 * ((a + 11 * h + 22 * l) / 451)
  high = omega arith

h-high : (y : ℕ) → h-of y < 30
unfolding h-of
h-high y = mod-lt (19 * (y % 19) + y / 100 - y / 100 / 4 - (y / 100 - (y / 100 + 8) / 25 + 1) / 3 + 15) (lit< tt)

l-high : (y : ℕ) → l-of y < 7
unfolding l-of
l-high y = mod-lt (32 + 2 * (y / 100 % 4) + 2 * (y % 100 / 4) - h-of y - y % 100 % 4) (lit< tt)

pub march-low : (y : ℕ) → 22 ≤ march y
unfolding march m-of
march-low y = omega (arith, low (y % 19) (h-of y) (l-of y) (mod-lt y (lit< tt)) (h-high y) (l-high y))

pub march-high : (y : ℕ) → march y ≤ 56
unfolding march m-of
march-high y = omega (arith, high (y % 19) (h-of y) (l-of y) (mod-lt y (lit< tt)) (h-high y) (l-high y))

-- the number from which the code takes month and day
pub value : (y : ℕ) → h-of y + l-of y + 114 - 7 * m-of y ≡ march y + 92
unfolding march m-of
value y = omega (arith, low (y % 19) (h-of y) (l-of y) (mod-lt y (lit< tt)) (h-high y) (l-high y))

-- the months that it can lie in
length-3 : (l : Bool) → month_length l 3 ≡ 31
unfolding month_length
length-3 true = refl
length-3 false = refl

length-4 : (l : Bool) → month_length l 4 ≡ 30
unfolding month_length
length-4 true = refl
length-4 false = refl

-- month and day as the code takes them
abbrev spring : ℕ → ℕ → Date
spring y x = record { year = y; month = (x + 92) / 31; day = (x + 92) % 31 + 1 }

-- such a date exists, and has the number
abbrev Fine : ℕ → ℕ → ℕ → ℕ → Type 0
Fine y x m d = (Valid (record { year = y; month = m; day = d })) × (day_number (record { year = y; month = m; day = d }) ≡ before_year y + before_month (leap y) 3 + x)

-- the date of a day of March or April
in-march : (y x : ℕ) → 22 ≤ x → x ≤ 31 → Fine y x 3 x
unfolding day_number ordinal
in-march y x h k =
    (record { month_low = omega arith; month_high = omega arith; day_low = omega arith; day_high = omega (arith, length-3 (leap y)) }, omega arith)

in-april : (y x : ℕ) → 31 < x → x ≤ 56 → Fine y x 4 (x - 31)
unfolding day_number ordinal
in-april y x h k = (
  record { month_low = omega arith; month_high = omega arith; day_low = omega arith; day_high = omega (arith, length-4 (leap y)) },
  omega (arith, month-suc (leap y) 3, length-3 (leap y)),
)

fine : (y x : ℕ) → 22 ≤ x → x ≤ 56 → Fine y x ((x + 92) / 31) ((x + 92) % 31 + 1)
fine y x h k = by_cases (dec_lt 31 x)
  where
    by_cases : Dec (31 < x) → Fine y x ((x + 92) / 31) ((x + 92) % 31 + 1)
    by_cases (yes p) =
        subst₂ (λ m d. Fine y x m d) (omega arith) (omega arith) (in-april y x p k)
    by_cases (no p) =
        subst₂ (λ m d. Fine y x m d) (omega arith) (omega arith) (in-march y x h (omega arith))

-- so the code's date is that of Easter's number
pub found : (y : ℕ) → y ≤ 12000 → spring y (march y) ≡ date_of (easter_number y)
found y h =
    date_of-number (spring y (march y)) f.0 (easter_number y) (omega (arith, right y h, march-low y)) (f.1 ∙ right y h)
  where
    f : Fine y (march y) ((march y + 92) / 31) ((march y + 92) % 31 + 1)
    f = fine y (march y) (march-low y) (march-high y)

-- the same, in the code's words
pub result : (y : ℕ) → y ≤ 12000 →
    ◌≡◌ {A = Date}
    (record {
      year = y;
      month = (h-of y + l-of y + 114 - 7 * m-of y) / 31;
      day = (h-of y + l-of y + 114 - 7 * m-of y) % 31 + 1;
    })
    (date_of (easter_number y))
result y h = rw (value y) (found y h)

-- no difference of the code falls below 0
pub room : (p q r s : ℕ) → r % 4 ≤ 32 + p + q - s % 30
room p q r s = omega arith
