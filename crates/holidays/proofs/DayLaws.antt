-- Days by number against days by year, month and day: which days a month's bits speak of, and that days outside an image's years are no holidays.
-- Assumes nothing.
use mathlib.Core.Path.{◌≡◌, refl, ap, subst}
use mathlib.Core.Bool.{true, false}
use mathlib.Core.List.{List}
use Prim.Native.Nat.{ℕ, ◌+◌, ◌-◌, ◌≤◌, ◌<◌}
use native.Mathlib.Omega.{arith}
use lib.Dec.{leb}
use borrow.Author.Tests.{lt-leb, le-ltb}
use Rattle.bits.specs.Bits.{bit_at}
use Rattle.calendar.specs.Calendar.{leap, month_length, before_month, before_year, ordinal, day_number, Valid, date_of}
use Rattle.calendar.specs.declared.Date.{Date}
use Rattle.calendar.proofs.Days.{year-suc, month-suc, whole-year, no-month, years-mono, in-year}
use Rattle.calendar.proofs.Dates.{date_of-number}
use Rattle.calendar.proofs.Weeks.{of-date, settled}
use Rattle.holiday_image.specs.Image.{first_year, year_count, month_bit, has_year, names}
use Rattle.holiday_image.proofs.Tests.{and-false, split}
use Rattle.holidays.proofs.SearchLaws.{Clear}

-- the number of a day, or of the day before a month's first
pub number : ℕ → ℕ → ℕ → ℕ
number y m d = day_number (record { year = y; month = m; day = d })

pub number_is : (y m d : ℕ) → number y m d ≡ before_year y + (before_month (leap y) m + d)
unfolding number day_number ordinal
number_is y m d = refl

pub number_of : (d : Date) → day_number d ≡ number d.year d.month d.day
unfolding number
number_of d = refl

pub years-up : (y z : ℕ) → y ≤ z → before_year y ≤ before_year z
years-up y z h = let e : y + (z - y) ≡ z = omega arith in omega (arith, years-mono y (z - y), ap before_year e)

-- every day of a year before 10000 has a number up to that of its end
pub under : (y m d : ℕ) → y < 10000 → m ≤ 12 → d ≤ month_length (leap y) m → number y m d ≤ before_year 10000
under y m d h l k =
    omega (arith, number_is y m d, in-year (leap y) m d l k, year-suc y, years-up (y + 1) 10000 (omega arith))

-- a year begins where the years before it end
pub start_is : (y : ℕ) → number y 1 0 ≡ before_year y
start_is y = omega (arith, number_is y 1 0, no-month (leap y))

pub day-before : (d : Date) (y : ℕ) → Valid d → d.year < y → day_number d ≤ before_year y
day-before d y v h =
    let t = of-date d v in
    omega (arith, t.counted, t.high, year-suc d.year, years-up (d.year + 1) y (omega arith))

-- a month ends where the next begins, and December where the next year does
pub month-end : (y m : ℕ) → number y m (month_length (leap y) m) ≡ number y (m + 1) 0
month-end y m = omega (arith, number_is y m (month_length (leap y) m), number_is y (m + 1) 0, month-suc (leap y) m)

pub year-end : (y : ℕ) → number y 13 0 ≡ number (y + 1) 1 0
year-end y =
    omega (arith, number_is y 13 0, number_is (y + 1) 1 0, whole-year (leap y), year-suc y, no-month (leap (y + 1)))

-- the day of a number within a month
day-at : (y m d j : ℕ) → 1 ≤ m → m ≤ 12 → 1 ≤ d → d ≤ month_length (leap y) m → number y m d ≡ j → record { year = y; month = m; day = d } ≡ date_of j
unfolding number
day-at y m d j a b c e f =
    date_of-number (record { year = y; month = m; day = d })
    (record { month_low = a; month_high = b; day_low = c; day_high = e })
    j
    (omega (arith, number_is y m d, f))
    f

-- days p + 1 to q of a month are no holidays, by name and so by number
pub days-clear : (s : List ℕ) (y m p q : ℕ) → 1 ≤ m → m ≤ 12 → q ≤ month_length (leap y) m
    → ((d : ℕ) → p < d → d ≤ q → names s (record { year = y; month = m; day = d }) ≡ false) → Clear s (number y m p) (number y m q)
days-clear s y m p q a b h c = record { clear = λ j l u. here j l u }
  where
    here : (j : ℕ) → number y m p < j → j ≤ number y m q → names s (date_of j) ≡ false
    here j l u =
        let d : ℕ = j - (before_year y + before_month (leap y) m) in
        let e : p < d = omega (arith, number_is y m p) in
        let f : d ≤ q = omega (arith, number_is y m q) in
        let g : number y m d ≡ j = omega (arith, number_is y m d, number_is y m p) in
        subst (λ (x : Date). names s x ≡ false) (day-at y m d j a b (omega arith) (omega arith) g) (c d e f)

-- the year of a numbered day

record InYear (j y : ℕ) : Type 0 where
  after : before_year y < j
  upto : j ≤ before_year (y + 1)

in-its-year : (j : ℕ) → 1 ≤ j → InYear j (date_of j).year
in-its-year j h =
    let t = settled j h in
    record { after = omega (arith, t.counted, t.low); upto = omega (arith, t.counted, t.high, year-suc (date_of j).year) }

pub not-before : (j y : ℕ) → before_year y < j → y ≤ (date_of j).year
not-before j y h =
    let t = in-its-year j (omega arith) in
    split (date_of j).year y (λ k. absurd (omega (arith, t.upto, years-up ((date_of j).year + 1) y (omega arith)))) (λ k. k)

pub before : (j y : ℕ) → 1 ≤ j → j ≤ before_year y → (date_of j).year < y
before j y i h =
    let t = in-its-year j i in
    split (date_of j).year y (λ k. k) (λ k. absurd (omega (arith, t.after, years-up y (date_of j).year k)))

-- outside its years an image names nothing

outside : (s : List ℕ) (d : Date) → has_year s d.year ≡ false → names s d ≡ false
unfolding names
outside s d e = rw e

no-year-early : (s : List ℕ) (y : ℕ) → y < first_year s → has_year s y ≡ false
unfolding has_year
no-year-early s y h = rw (lt-leb (first_year s) y h)

no-year-late : (s : List ℕ) (y : ℕ) → first_year s + year_count s ≤ y → has_year s y ≡ false
unfolding has_year
no-year-late s y h = rw (le-ltb y (first_year s + year_count s) h) (and-false (leb (first_year s) y))

pub too-early : (s : List ℕ) (d : Date) → d.year < first_year s → names s d ≡ false
too-early s d h = outside s d (no-year-early s d.year h)

pub too-late : (s : List ℕ) (d : Date) → first_year s + year_count s ≤ d.year → names s d ≡ false
too-late s d h = outside s d (no-year-late s d.year h)

-- a day by its bit

pub unset : (s : List ℕ) (y m d : ℕ) → bit_at s (month_bit (first_year s) y m + (d - 1)) ≡ 0 → names s (record { year = y; month = m; day = d }) ≡ false
unfolding names
unset s y m d e = rw e (and-false (has_year s y))

pub set-in : (s : List ℕ) (y m d : ℕ) → has_year s y ≡ true → bit_at s (month_bit (first_year s) y m + (d - 1)) ≡ 1
    → names s (record { year = y; month = m; day = d }) ≡ true
unfolding names
set-in s y m d e f = rw (e, f)
