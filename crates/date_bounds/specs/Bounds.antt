-- The day number of a date on a year, as a start or as an end of an interval, or none.
-- Assumes nothing.
use Rattle.std.specs.Prelude.{ℕ, zero, suc, ◌+◌, ◌-◌, ◌≤◌, ◌<◌, cond, List, [], ◌∷◌, ◌≡◌, eqb, leb, ℤ, pos, negsuc, nat_abs, Option, Some, None}
use Rattle.std.specs.Option.{option_map, unwrap_or}
use Rattle.calendar.specs.Calendar.{leap, month_length, before_month, before_year, day_number, weekday}
use Rattle.calendar.specs.Moved.{moved}
use Rattle.easter.specs.Easter.{easter_number}
use Rattle.rules.specs.declared.Date.{Date}
use Rattle.rules.specs.declared.Date.TheVariants.{Fixed, Weekday, Easter}
use Rattle.rules.specs.declared.DateOffset.{DateOffset}
use Rattle.date_bounds.specs.declared.Side.{Side}
use Rattle.date_bounds.specs.declared.Side.TheVariants.{Start, End}

-- a fixed date not in its year is so many days past the month's last day: as start the day after it, as end that day
abbrev pub past : Side → ℕ
past Start = 1
past End = 0

abbrev pub as_start : Side
as_start = Start

abbrev pub as_end : Side
as_end = End

unfoldable pub fixed_on : Side → ℕ → ℕ → ℕ → ℕ
fixed_on side y m d =
    cond (leb d (month_length (leap y) m))
    (day_number (record { year = y; month = m; day = d }))
    (day_number (record { year = y; month = m; day = month_length (leap y) m }) + past side)

-- the days b + 1 to b + c, from the first, and from the last
unfoldable pub forward : ℕ → ℕ → List ℕ
forward b zero = []
forward b (suc c) = (b + 1) ∷ forward (b + 1) c

unfoldable pub backward : ℕ → ℕ → List ℕ
backward b zero = []
backward b (suc c) = (b + c + 1) ∷ backward b c

-- the kth of the days that fall on weekday w, counted from 1; beyond there is none
unfoldable pub kth : ℕ → ℕ → List ℕ → Option ℕ
kth w k [] = None
kth w k (n ∷ ns) = cond (eqb (weekday n) w) (cond (eqb k 1) (Some n) (kth w (k - 1) ns)) (kth w k ns)

-- of the days b + 1 to b + c: nth > 0 counts from the start, nth < 0 from the end; 0 gives no date
unfoldable pub nth_in : ℕ → ℕ → ℕ → ℤ → Option ℕ
nth_in b c w (pos k) = kth w k (forward b c)
nth_in b c w (negsuc k) = kth w (suc k) (backward b c)

unfoldable pub nth_on : ℕ → ℕ → ℕ → ℤ → Option ℕ
nth_on y m w nth = nth_in (before_year y + before_month (leap y) m) (month_length (leap y) m) w nth

-- the three forms on a year; their own years are left out
unfoldable pub on_year : Side → Date → ℕ → Option ℕ
on_year side (Fixed own m d) y = Some (fixed_on side y m d)
on_year side (Weekday own m w nth) y = nth_on y m w nth
on_year side (Easter own) y = Some (easter_number y)

-- a date's own year; 0 stands for none
abbrev pub given : ℕ → Option ℕ
given own = cond (eqb own 0) None (Some own)

unfoldable pub own_year : Date → Option ℕ
own_year (Fixed own m d) = given own
own_year (Weekday own m w nth) = given own
own_year (Easter own) = given own

-- own years win
unfoldable pub year_for : Option ℕ → ℕ → ℕ
year_for own y = unwrap_or own y

unfoldable pub date_on : Side → Date → ℕ → Option ℕ
date_on side date y = on_year side date (year_for (own_year date) y)

-- offsets are added after
unfoldable pub bound_on : Side → DateOffset → ℕ → Option ℕ
bound_on side d y = option_map (λ n. moved n d.offset) (date_on side d.date y)

-- what the reader of images ensures: years 1900 to 9999 or none, and numbers that have a meaning
pub record YearOk (own : ℕ) : Type 0 where
  pub low : (own ≡ 0 → ⊥) → 1900 ≤ own
  pub high : own ≤ 9999

pub record MonthOk (m : ℕ) : Type 0 where
  pub low : 1 ≤ m
  pub high : m ≤ 12

abbrev pub FormOk : Date → Type 0
FormOk (Fixed own m d) = YearOk own × MonthOk m × (1 ≤ d) × (d ≤ 31)
FormOk (Weekday own m w nth) = YearOk own × MonthOk m × (w < 7) × (nat_abs nth ≤ 8)
FormOk (Easter own) = YearOk own

pub record DateOk (date : Date) : Type 0 where
  pub ok : FormOk date

pub record BoundOk (d : DateOffset) : Type 0 where
  pub date : DateOk d.date
  pub offset : nat_abs d.offset ≤ 366

-- the days before a year, known, of a year that can be asked about
pub record Before (y b : ℕ) : Type 0 where
  pub is : b ≡ before_year y
  pub low : 1800 ≤ y
  pub high : y ≤ 10001
