-- Laws of the calendar's sums: how years and months add up, how far they reach, and that they rise.
-- Assumes nothing.
use mathlib.Core.Path.{◌≡◌, refl, ap}
use mathlib.Core.Bool.{Bool, true, false, ◌&&◌}
use Prim.Native.Nat.{ℕ, zero, suc, ◌+◌, ◌*◌, ◌-◌, ◌≤◌, ◌<◌}
use native.Mathlib.Nat.{add-zero, add-suc}
use native.Mathlib.Numerals.{add-one}
use native.Mathlib.Omega.{arith}
use lib.Dec.{T, leb, leb→le}
use native.Mathlib.Decide.{ℕ_discrete}
use Rattle.calendar.proofs.Upto.{holds, both_left, both_right}
use Rattle.calendar.specs.Calendar.{leap, month_length, before_month, before_year, year_length}
use Rattle.calendar.specs.Parts.{InMonth}

-- a year has 365 or 366 days
pub year-low : (l : Bool) → 365 ≤ year_length l
unfolding year_length
year-low true = omega arith
year-low false = omega arith

pub year-high : (l : Bool) → year_length l ≤ 366
unfolding year_length
year-high true = omega arith
year-high false = omega arith

-- the days before a year, from those before the one before it
pub year-suc : (y : ℕ) → before_year (y + 1) ≡ before_year y + year_length (leap y)
unfolding before_year
year-suc y = rw add-one

-- so many years have so many days, at most and at least
pub years-high : (y : ℕ) → before_year y ≤ 366 * y
unfolding before_year
years-high zero = omega arith
years-high (suc y) = omega (arith, years-high y, year-high (leap y))

pub years-low : (y : ℕ) → 365 * y ≤ before_year y
unfolding before_year
years-low zero = omega arith
years-low (suc y) = omega (arith, years-low y, year-low (leap y))

-- no month starts behind the year: one test over the months
within : Bool → ℕ → Bool
within l m = leb (before_month l m) 366

pub months-high : (l : Bool) (m : ℕ) → m < 14 → before_month l m ≤ 366
unfolding within before_month month_length
months-high true m h = leb→le _ _ (holds (within true) 14 tt m h)
months-high false m h = leb→le _ _ (holds (within false) 14 tt m h)

-- of months of 31 days each, those before a month have too many days, by 7 at most: one test over the months
full : Bool → ℕ → Bool
full l m = leb (before_month l (m + 1)) (31 * m) && leb (31 * m) (before_month l (m + 1) + 7)

is-full : (l : Bool) (m : ℕ) → m < 13 → T (full l m)
unfolding full before_month month_length
is-full true m h = holds (full true) 13 tt m h
is-full false m h = holds (full false) 13 tt m h

pub months-31 : (l : Bool) (m : ℕ) → m < 13 → before_month l (m + 1) ≤ 31 * m
unfolding full
months-31 l m h =
    leb→le _ _ (both_left (leb (before_month l (m + 1)) (31 * m)) (leb (31 * m) (before_month l (m + 1) + 7)) (is-full l m h))

pub months-near : (l : Bool) (m : ℕ) → m < 13 → 31 * m ≤ before_month l (m + 1) + 7
unfolding full
months-near l m h =
    leb→le _ _ (both_right (leb (before_month l (m + 1)) (31 * m)) (leb (31 * m) (before_month l (m + 1) + 7)) (is-full l m h))

-- the twelve months are the year
pub whole-year : (l : Bool) → before_month l 13 ≡ year_length l
unfolding before_month month_length year_length
whole-year true = refl
whole-year false = refl

-- the days before a month, from those before the one before it
pub month-suc : (l : Bool) (m : ℕ) → before_month l (m + 1) ≡ before_month l m + month_length l m
unfolding before_month
month-suc l m = rw add-one

-- January comes first
pub no-month : (l : Bool) → before_month l 1 ≡ 0
unfolding before_month month_length
no-month true = refl
no-month false = refl

-- a month with days after it is not the last
pub not_last : (l : Bool) (d m : ℕ) → m ≤ 12 → before_month l (m + 1) < d → d ≤ year_length l → m < 12
not_last l d m h b e = by_cases (ℕ_discrete m 12)
  where
    by_cases : Dec (m ≡ 12) → m < 12
    by_cases (yes p) = omega (arith, whole-year l, ap (λ k. before_month l (k + 1)) p)
    by_cases (no f) = omega arith

-- so that the month counted by 31 days is the month before a day's own, where the next one has begun
pub in-next-month : (l : Bool) (d m : ℕ) → d ≤ 31 * m + 31 → m < 12 → d ≤ year_length l → before_month l (m + 1 + 1) < d → InMonth l d (m + 1 + 1)
in-next-month l d m k h i b =
    record {
      month_low = omega arith;
      month_high = omega (arith, more);
      after = b;
      upto = omega (arith, months-near l (m + 1 + 1) (omega (arith, more)));
    }
  where
    more : m + 1 < 12
    more = not_last l d (m + 1) (omega arith) b i

-- and its own where it has not
pub in-same-month : (l : Bool) (d m : ℕ) → 31 * m < d → m < 12 → d ≤ before_month l (m + 1 + 1) → InMonth l d (m + 1)
in-same-month l d m k h b =
    record { month_low = omega arith; month_high = omega arith; after = omega (arith, months-31 l m (omega arith)); upto = b }

-- a later month or year has more days before it
pub months-mono : (l : Bool) (m k : ℕ) → before_month l m ≤ before_month l (m + k)
unfolding before_month
months-mono l m zero = omega (arith, ap (before_month l) (add-zero m))
months-mono l m (suc k) = omega (arith, months-mono l m k, ap (before_month l) (add-suc m k))

pub years-mono : (y k : ℕ) → before_year y ≤ before_year (y + k)
unfolding before_year
years-mono y zero = omega (arith, ap before_year (add-zero y))
years-mono y (suc k) = omega (arith, years-mono y k, ap before_year (add-suc y k))

-- a month has 28 to 31 days: one test over the table
normal : Bool → ℕ → Bool
normal l m = leb 28 (month_length l (m + 1)) && leb (month_length l (m + 1)) 31

is_normal : (l : Bool) (m : ℕ) → m < 12 → T (normal l m)
unfolding normal month_length
is_normal true m h = holds (normal true) 12 tt m h
is_normal false m h = holds (normal false) 12 tt m h

low-at : (l : Bool) (m : ℕ) → m < 12 → 28 ≤ month_length l (m + 1)
unfolding normal
low-at l m h =
    leb→le _ _ (both_left (leb 28 (month_length l (m + 1))) (leb (month_length l (m + 1)) 31) (is_normal l m h))

high-at : (l : Bool) (m : ℕ) → m < 12 → month_length l (m + 1) ≤ 31
unfolding normal
high-at l m h =
    leb→le _ _ (both_right (leb 28 (month_length l (m + 1))) (leb (month_length l (m + 1)) 31) (is_normal l m h))

-- the same, with the month's own number
back : (m : ℕ) → 1 ≤ m → m - 1 + 1 ≡ m
back m h = omega arith

pub length-low : (l : Bool) (m : ℕ) → 1 ≤ m → m ≤ 12 → 28 ≤ month_length l m
length-low l m h k = rw (back m h) at (low-at l (m - 1) (omega arith))

pub length_high : (l : Bool) (m : ℕ) → 1 ≤ m → m ≤ 12 → month_length l m ≤ 31
length_high l m h k = rw (back m h) at (high-at l (m - 1) (omega arith))

-- what comes earlier has a lower number
up_to : (a b : ℕ) → a < b → a + 1 + (b - (a + 1)) ≡ b
up_to a b h = omega arith

pub earlier-year : (y z o p : ℕ) → y < z → o ≤ year_length (leap y) → 1 ≤ p → before_year y + o < before_year z + p
earlier-year y z o p h i j =
    omega (arith, year-suc y, years-mono (y + 1) (z - (y + 1)), ap before_year (up_to y z h))

pub earlier-month : (l : Bool) (m n d e : ℕ) → m < n → d ≤ month_length l m → 1 ≤ e → before_month l m + d < before_month l n + e
earlier-month l m n d e h i j =
    omega (arith, month-suc l m, months-mono l (m + 1) (n - (m + 1)), ap (before_month l) (up_to m n h))

-- a day of a month is a day of its year
pub in-year : (l : Bool) (m d : ℕ) → m ≤ 12 → d ≤ month_length l m → before_month l m + d ≤ year_length l
in-year l m d h i = omega (arith, earlier-month l m 13 d 1 (omega arith) i (omega arith), whole-year l)
