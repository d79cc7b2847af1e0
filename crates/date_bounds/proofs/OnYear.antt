-- The forms of a date on a year: what the code computes, and the range of the days found.
-- Assumes nothing.
use mathlib.Core.Path.{◌≡◌, refl, ap, sym, ◌∙◌, subst}
use mathlib.Core.Bool.{Bool, true, false}
use Prim.Native.Nat.{ℕ, suc, ◌+◌, ◌-◌, ◌≤◌, ◌<◌}
use native.Mathlib.Decide.{dec_lt, ℕ_discrete}
use native.Mathlib.Omega.{arith}
use borrow.Author.Tests.{le-leb, lt-leb, eq-eqb, ne_eqb}
use lib.IntN.{ℤ, pos, negsuc, nat_abs}
use mir.Syntax.{w16}
use mir.Val.{to_z, of_z}
use Rattle.calendar.specs.Calendar.{leap, month_length, before_month, before_year, ordinal, day_number, date_of}
use Rattle.calendar.specs.Parts.{Settled}
use Rattle.calendar.specs.Moved.{moved}
use Rattle.calendar.specs.declared.Date as calendar
use Rattle.calendar.proofs.Days.{year-low, years-high, years-low, months-high, length-low, length_high}
use Rattle.calendar.proofs.Dates.{date_of-valid, number-date_of}
use Rattle.calendar.proofs.Weeks.{settled, one-year}
use Rattle.easter.specs.Easter.{easter_number, sunday_after, full_moon}
use Rattle.rules.specs.declared.Date.{Date}
use Rattle.rules.specs.declared.Date.TheVariants.{Fixed, Weekday, Easter}
use Rattle.rules.specs.declared.DateOffset.{DateOffset}
use Rattle.std.proofs.Common.{Option, Some, None}
use Rattle.date_bounds.specs.declared.Side.{Side}
use Rattle.date_bounds.specs.declared.Side.TheVariants.{Start, End}
use Rattle.date_bounds.specs.Bounds.{past, given, fixed_on, forward, backward, kth, nth_in, nth_on, on_year, own_year, year_for, date_on, bound_on, YearOk, MonthOk, DateOk, Before}
use Rattle.calendar.proofs.Offsets.{again}
use Rattle.date_bounds.proofs.Nth.{kth-within, kth-within-back}

-- a fixed date, in its month and past it
module _ (side : Side) (y m d : ℕ) where
  pub in-month : d ≤ month_length (leap y) m → before_year y + before_month (leap y) m + d ≡ fixed_on side y m d
  unfolding fixed_on day_number ordinal
  in-month h = simp (le-leb d (month_length (leap y) m) h) (omega arith)

  pub past-month : month_length (leap y) m < d → before_year y + before_month (leap y) m + month_length (leap y) m + past side ≡ fixed_on side y m d
  unfolding fixed_on day_number ordinal
  past-month h = simp (lt-leb d (month_length (leap y) m) h) (omega arith)

-- a month on a year, from what the calendar's functions give
pub record MonthAt (y m start length : ℕ) : Type 0 where
  pub at : start ≡ before_year y + before_month (leap y) m
  pub days : length ≡ month_length (leap y) m
  pub near : start < 9000000
  pub few : length ≤ 31

pub month-at : {before bm length : ℕ} {l : Bool} (y m : ℕ) → Before y before → MonthOk m → l ≡ leap y → bm ≡ before_month l m → length ≡ month_length l m → MonthAt y m (before + bm) length
month-at {before} {bm} {length} {l} y m b k e f g =
    let at : bm ≡ before_month (leap y) m = f ∙ ap (λ x. before_month x m) e in
    let days : length ≡ month_length (leap y) m = g ∙ ap (λ x. month_length x m) e in
    record {
      at = omega (arith, at, b.is);
      days = days;
      near = omega (arith, at, b.is, b.high, years-high y, months-high (leap y) m (omega (arith, k.high)));
      few = omega (arith, days, length_high (leap y) m k.low k.high);
    }

pub moved-low : (n : ℕ) (z : ℤ) → n ≤ moved n z + nat_abs z
moved-low n (pos k) = omega arith
moved-low n (negsuc k) = omega arith

pub nth-again : (z : ℤ) → nat_abs z ≤ 8 → nat_abs (to_z w16 (of_z w16 z)) ≤ 8
nth-again z h = rw (again z (omega arith)) h

pub nth-made : {s l : ℕ} (y m w : ℕ) (z : ℤ) → nat_abs z ≤ 8 → MonthAt y m s l → nth_in s l w (to_z w16 (of_z w16 z)) ≡ nth_on y m w z
unfolding nth_on
nth-made y m w z h k = rw (again z (omega arith), k.at, k.days)

-- the three forms
module _ (side : Side) (date : Date) (y : ℕ) where
  pub on-fixed : {own m d : ℕ} → date ≡ Fixed own m d → Some (fixed_on side y m d) ≡ on_year side date y
  unfolding on_year
  on-fixed e = rw e

  pub on-weekday : {own m w : ℕ} {z : ℤ} → date ≡ Weekday own m w z → nat_abs z ≤ 8 → nth_on y m w (to_z w16 (of_z w16 z)) ≡ on_year side date y
  unfolding on_year
  on-weekday {z = z} e h = rw (e, again z (omega arith))

  pub on-easter : {own : ℕ} → date ≡ Easter own → Some (easter_number y) ≡ on_year side date y
  unfolding on_year
  on-easter e = rw e

-- the sign of nth, from a number that it is added to
module _ (b c w : ℕ) where
  pub forwards : (z : ℤ) (at : ℕ) → nat_abs z ≤ 8 → at ≡ moved 1000 z → 1000 ≤ at → kth w (at - 1000) (forward b c) ≡ nth_in b c w z
  unfolding nth_in
  forwards (pos k) at h e q = let f : at - 1000 ≡ k = omega arith in ap (λ j. kth w j (forward b c)) f
  forwards (negsuc k) at h e q = absurd (omega arith)

  pub backwards : (z : ℤ) (at : ℕ) → nat_abs z ≤ 8 → at ≡ moved 1000 z → at < 1000 → kth w (1000 - at) (backward b c) ≡ nth_in b c w z
  unfolding nth_in
  backwards (pos k) at h e q = absurd (omega arith)
  backwards (negsuc k) at h e q = let f : 1000 - at ≡ suc k = omega arith in ap (λ j. kth w j (backward b c)) f

  nth-within : (z : ℤ) (n : ℕ) → w < 7 → nth_in b c w z ≡ Some n → (b < n) × (n ≤ b + c)
  unfolding nth_in
  nth-within (pos k) n h f = kth-within b c w k n h f
  nth-within (negsuc k) n h f = kth-within-back b c w (suc k) n h f

-- Easter Sunday falls into its year
full-high : (y : ℕ) → full_moon y ≤ 50
unfolding full_moon
full-high y = omega arith

march : (l : Bool) → before_month l 3 ≤ 60
unfolding before_month month_length
march true = omega arith
march false = omega arith

sunday-low : (n : ℕ) → n < sunday_after n
unfolding sunday_after
sunday-low n = omega arith

sunday-high : (n : ℕ) → sunday_after n ≤ n + 7
unfolding sunday_after
sunday-high n = omega arith

pub easter-within : (y : ℕ) → (before_year y < easter_number y) × (easter_number y ≤ before_year y + 200)
unfolding easter_number
easter-within y =
    let n = before_year y + before_month (leap y) 3 + full_moon y in
    omega (arith, sunday-low n, sunday-high n, full-high y, march (leap y))

in-year : (y : ℕ) → Settled (easter_number y) y (easter_number y - before_year y)
in-year y =
    record {
      counted = omega (arith, easter-within y);
      low = omega (arith, easter-within y);
      high = omega (arith, easter-within y, year-low (leap y));
    }

pub easter-year : (y : ℕ) → (date_of (easter_number y)).year ≡ y
easter-year y = one-year (settled (easter_number y) (omega (arith, easter-within y))) (in-year y)

-- so that its number is the sum with that year
pub easter-is : (y : ℕ) (d : calendar.Date) → d ≡ date_of (easter_number y) → before_year y + before_month (leap y) d.month + d.day ≡ easter_number y
unfolding day_number ordinal
easter-is y d e =
    rw e (subst (λ x. before_year x + before_month (leap x) (date_of (easter_number y)).month + (date_of (easter_number y)).day ≡ easter_number y) (easter-year y)
    (omega (arith, number-date_of (easter_number y))))

pub easter-month : (y : ℕ) (d : calendar.Date) → d ≡ date_of (easter_number y) → (1 ≤ d.month) × (d.month ≤ 12) × (d.day ≤ 31)
easter-month y d e =
    let v = date_of-valid (easter_number y) (omega (arith, easter-within y)) in
    rw e (
      v.month_low,
      v.month_high,
      omega (arith, v.day_high, length_high (leap (date_of (easter_number y)).year) (date_of (easter_number y)).month v.month_low v.month_high),
    )

pub past-high : (side : Side) → past side ≤ 1
past-high Start = omega arith
past-high End = omega arith

fixed-within : (side : Side) (y m d : ℕ) → MonthOk m → 1 ≤ d → d ≤ 31 → (before_year y < fixed_on side y m d) × (fixed_on side y m d ≤ before_year y + 400)
fixed-within side y m d k i j = by_cases (dec_lt (month_length l m) d)
  where
    l : Bool
    l = leap y

    by_cases : Dec (month_length l m < d) → (before_year y < fixed_on side y m d) × (fixed_on side y m d ≤ before_year y + 400)
    by_cases (yes q) =
        omega (
          arith,
          past-month side y m d q,
          past-high side,
          months-high l m (omega (arith, k.high)),
          length-low l m k.low k.high,
          length_high l m k.low k.high,
        )
    by_cases (no q) = omega (arith, in-month side y m d (omega arith), months-high l m (omega (arith, k.high)))

-- a date that is found lies in its year or on the day after
pub on-within : (side : Side) (date : Date) (y n : ℕ) → DateOk date → on_year side date y ≡ Some n → (before_year y < n) × (n ≤ before_year y + 400)
unfolding on_year nth_on
on-within side (Fixed own m d) y n ok f =
    let e : fixed_on side y m d ≡ n = cc in
    omega (arith, fixed-within side y m d ok.ok.1 ok.ok.2 ok.ok.3)
on-within side (Weekday own m w nth) y n ok f =
    let l = leap y in
    omega (
      arith,
      nth-within (before_year y + before_month l m) (month_length l m) w nth n ok.ok.2 f,
      months-high l m (omega (arith, ok.ok.1.high)),
      length_high l m ok.ok.1.low ok.ok.1.high,
    )
on-within side (Easter own) y n ok f =
    let e : easter_number y ≡ n = cc in
    omega (arith, easter-within y)

-- the year that a date is laid on
given-ok : (own n : ℕ) → YearOk own → given own ≡ Some n → (1900 ≤ n) × (n ≤ 9999)
given-ok own n ok e = by_cases (ℕ_discrete own 0)
  where
    by_cases : Dec (own ≡ 0) → (1900 ≤ n) × (n ≤ 9999)
    by_cases (yes z) = let f : None ≡ Some n = sym (simp (eq-eqb own 0 z)) ∙ e in absurd cc
    by_cases (no z) =
        let f : Some own ≡ Some n = sym (simp (ne_eqb own 0 z)) ∙ e in
        let g : own ≡ n = cc in
        omega (arith, ok.low z, ok.high)

pub own-ok : (date : Date) (n : ℕ) → DateOk date → own_year date ≡ Some n → (1900 ≤ n) × (n ≤ 9999)
unfolding own_year
own-ok (Fixed own m d) n ok e = given-ok own n ok.ok.0 e
own-ok (Weekday own m w nth) n ok e = given-ok own n ok.ok.0 e
own-ok (Easter own) n ok e = given-ok own n ok.ok e

pub year-within : (own : Option ℕ) (y : ℕ) → ((n : ℕ) → own ≡ Some n → (1900 ≤ n) × (n ≤ 9999)) → 1800 ≤ y → y ≤ 10001 →
    (1800 ≤ year_for own y) × (year_for own y ≤ 10001)
unfolding year_for
year-within None y ok i j = (i, j)
year-within (Some n) y ok i j = omega (arith, ok n refl)

-- a date that is found can be moved by an offset
pub can-move : (side : Side) (date : Date) (y n : ℕ) → DateOk date → 1800 ≤ y → y ≤ 10001 → date_on side date y ≡ Some n → (366 < n) × (n < 4000000)
unfolding date_on
can-move side date y n ok i j f =
    let z = year_for (own_year date) y in
    omega (
      arith,
      on-within side date z n ok f,
      year-within (own_year date) y (λ m. own-ok date m ok) i j,
      years-low z,
      years-high z,
    )

module _ (side : Side) (d : DateOffset) (y : ℕ) where
  pub stays : date_on side d.date y ≡ None → None ≡ bound_on side d y
  unfolding bound_on
  stays h = rw h

  pub moves : (n : ℕ) → date_on side d.date y ≡ Some n → Some (moved n d.offset) ≡ bound_on side d y
  unfolding bound_on
  moves n h = rw h
