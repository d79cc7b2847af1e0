-- The ones of a month's bits are its holidays; outside the image's years there are none.
-- Assumes nothing.
use mathlib.Core.Path.{◌≡◌, refl, ap, sym, ◌∙◌}
use mathlib.Core.Bool.{Bool, true, false, cond}
use mathlib.Core.List.{List}
use Prim.Native.Nat.{ℕ, zero, suc, ◌+◌, ◌-◌, ◌<◌}
use native.Mathlib.Omega.{arith}
use lib.Count.{ones}
use lib.Dec.{eqb}
use borrow.Author.Tests.{eq-eqb, ne_eqb}
use Rattle.bits.specs.Bits.{bits, bit_at}
use Rattle.calendar.specs.Calendar.{leap}
use Rattle.calendar.specs.declared.Date.{Date}
use Rattle.calendar.proofs.Days.{length-low}
use Rattle.dates.specs.Exists.{is_month, is_date}
use Rattle.dates.proofs.There.{month-there, passes}
use Rattle.holiday_image.specs.Image.{first_year, month_bit, has_year, names}
use Rattle.holiday_image.proofs.Tests.{split, and_left}
use Rattle.holidays.specs.Answers.{count_to}
use Rattle.holidays.proofs.BitLaws.{ones_none, ones-more}

bit-counts : (b : ℕ) → b < 2 → cond (eqb b 1) 1 0 ≡ b
bit-counts b h = split b 1 (λ k. rw (ne_eqb b 1 (λ e. omega arith)) (omega arith)) (λ k. rw (eq-eqb b 1 (omega arith)) (omega arith))

bit-day : (s : List ℕ) (at k d : ℕ) → k ≡ d → cond (eqb (bit_at s (at + k)) 1) 1 0 ≡ bit_at s (at + d)
bit-day s at k d h = rw h (bit-counts (bit_at s (at + d)) (omega arith))

day-counts : (s : List ℕ) (y m d : ℕ) → has_year s y ≡ true
    → cond (names s (record { year = y; month = m; day = suc d })) 1 0 ≡ bit_at s (month_bit (first_year s) y m + d)
unfolding names
day-counts s y m d e = rw e (bit-day s (month_bit (first_year s) y m) (suc d - 1) d (omega arith))

pub count_ones : (s : List ℕ) (y m w : ℕ) → has_year s y ≡ true → count_to s y m w ≡ ones (bits s (month_bit (first_year s) y m) w)
unfolding count_to
count_ones s y m zero e = sym (ones_none s (month_bit (first_year s) y m))
count_ones s y m (suc w) e =
    rw (count_ones s y m w e, day-counts s y m w e, ones-more s (month_bit (first_year s) y m) w)

unnamed : (s : List ℕ) (y m d : ℕ) → has_year s y ≡ false → ◌≡◌ {A = ℕ} (cond (names s (record { year = y; month = m; day = d })) 1 0) 0
unfolding names
unnamed s y m d e = rw e

pub count_none : (s : List ℕ) (y m w : ℕ) → has_year s y ≡ false → count_to s y m w ≡ 0
unfolding count_to
count_none s y m zero e = refl
count_none s y m (suc w) e = rw (count_none s y m w e, unnamed s y m (suc w) e)

-- what the code counts is the answer
pub count-said : (s : List ℕ) (y m v : ℕ) → has_year s y ≡ true → v ≡ bits s (month_bit (first_year s) y m) 31 → ones v ≡ count_to s y m 31
count-said s y m v e f = ap ones f ∙ sym (count_ones s y m 31 e)

-- there is a month exactly where there is its first day

month-of : (d : Date) → is_date d ≡ true → is_month d.year d.month ≡ true
unfolding is_date
month-of d e = and_left (is_month d.year d.month) _ e

first_of : (y m : ℕ) → is_month y m ≡ true → is_date (record { year = y; month = m; day = 1 }) ≡ true
first_of y m e =
    let t = month-there y m e in
    let l = length-low (leap y) m t.month_low t.month_high in
    passes (record { year = y; month = m; day = 1 })
    (record {
      valid = record { month_low = t.month_low; month_high = t.month_high; day_low = omega arith; day_high = omega arith };
      low = t.year-low;
      high = t.year-high;
    })

pub first-day-tells : (y m : ℕ) → is_date (record { year = y; month = m; day = 1 }) ≡ is_month y m
first-day-tells y m = by_cases (is_month y m) refl (is_date (record { year = y; month = m; day = 1 })) refl
  where
    by_cases : (a : Bool) → is_month y m ≡ a → (b : Bool) → is_date (record { year = y; month = m; day = 1 }) ≡ b
        → is_date (record { year = y; month = m; day = 1 }) ≡ is_month y m
    by_cases true f b g = first_of y m f ∙ sym f
    by_cases false f true g = g ∙ sym (month-of (record { year = y; month = m; day = 1 }) g)
    by_cases false f false g = g ∙ sym f
