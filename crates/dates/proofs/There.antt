-- What the test of a year, a month or a date says, in facts; and that every date of the years passes it.
-- Assumes nothing.
use mathlib.Core.Path.{◌≡◌, refl}
use mathlib.Core.Bool.{Bool, true, false, ◌&&◌, and-eq-true_iff}
use Prim.Native.Nat.{ℕ, ◌≤◌, ◌<◌}
use native.Mathlib.Omega.{arith}
use lib.Dec.{leb}
use borrow.Author.Tests.{leb-true, le-leb}
use Rattle.calendar.specs.Calendar.{leap, month_length, day_number, Valid}
use Rattle.calendar.specs.declared.Date.{Date}
use Rattle.calendar.proofs.Days.{years-high, year-high, length_high}
use Rattle.calendar.proofs.Weeks.{of-date}
use Rattle.std.specs.Prelude.{Ok, Err}
use Rattle.refusals.specs.Numbers.{refused}
use Rattle.refusals.specs.declared.Cause.TheVariants.{NoDate}
use Rattle.refusals.specs.declared.Refusal.{Refusal}
use Rattle.dates.specs.Answers.{answered, asked}
use Rattle.dates.specs.Exists.{in_years, is_month, is_date}

-- a number between two others
between : (lo n hi : ℕ) → leb lo n && leb n hi ≡ true → (lo ≤ n) × (n ≤ hi)
between lo n hi e = made ((and-eq-true_iff (leb lo n) (leb n hi)).0 e)
  where
    made : (leb lo n ≡ true) × (leb n hi ≡ true) → (lo ≤ n) × (n ≤ hi)
    made p = (leb-true lo n p.0, leb-true n hi p.1)

-- what is answered is there, and what is not there is refused, whatever is asked of it
pub answered-ok : {A : Type 0} (b : Bool) (x e : A) → answered b x ≡ Ok e → (x ≡ e) × (b ≡ true)
answered-ok true x e h = (cc, refl)
answered-ok false x e h = absurd (cc)

pub answered-err : {A B : Type 0} (b : Bool) (x : A) (y : B) (r : Refusal) → answered b x ≡ Err r → Err r ≡ answered b y
answered-err true x y r h = absurd (cc)
answered-err false x y r h = cc

-- a year of 1 to 12000
pub year-there : (y : ℕ) → in_years y ≡ true → (1 ≤ y) × (y ≤ 12000)
unfolding in_years
year-there y e = between 1 y 12000 e

-- a month that exists, and its test
pub record MonthThere (y m : ℕ) : Type 0 where
  pub year-low : 1 ≤ y
  pub year-high : y ≤ 12000
  pub month_low : 1 ≤ m
  pub month_high : m ≤ 12

pub month-there : (y m : ℕ) → is_month y m ≡ true → MonthThere y m
unfolding is_month
month-there y m e = made ((and-eq-true_iff (in_years y) (leb 1 m && leb m 12)).0 e)
  where
    facts : (1 ≤ y) × (y ≤ 12000) → (1 ≤ m) × (m ≤ 12) → MonthThere y m
    facts a b = record { year-low = a.0; year-high = a.1; month_low = b.0; month_high = b.1 }

    made : (in_years y ≡ true) × (leb 1 m && leb m 12 ≡ true) → MonthThere y m
    made p = facts (year-there y p.0) (between 1 m 12 p.1)

-- a date that exists, and its test
pub record DateThere (d : Date) : Type 0 where
  pub valid : Valid d
  pub low : 1 ≤ d.year
  pub high : d.year ≤ 12000

module _ (d : Date) where
  len : ℕ
  len = month_length (leap d.year) d.month

  pub date-there : is_date d ≡ true → DateThere d
  unfolding is_date len
  date-there e = made ((and-eq-true_iff (is_month d.year d.month) (leb 1 d.day && leb d.day len)).0 e)
    where
      facts : MonthThere d.year d.month → (1 ≤ d.day) × (d.day ≤ len) → DateThere d
      facts m r =
          record {
            valid = record { month_low = m.month_low; month_high = m.month_high; day_low = r.0; day_high = r.1 };
            low = m.year-low;
            high = m.year-high;
          }

      made : (is_month d.year d.month ≡ true) × (leb 1 d.day && leb d.day len ≡ true) → DateThere d
      made p = facts (month-there d.year d.month p.0) (between 1 d.day len p.1)

  -- a date that is answered is the one that was asked about, and exists
  pub asked-there : (e : Date) → asked d ≡ Ok e → (d ≡ e) × DateThere e × (is_date e ≡ true)
  unfolding asked
  asked-there e h = same (answered-ok (is_date d) d e h)
    where
      same : (d ≡ e) × (is_date d ≡ true) → (d ≡ e) × DateThere e × (is_date e ≡ true)
      same p = (p.0, rw p.0 at (date-there p.1), rw p.0 at p.1)

  -- where it is refused, so is all that is asked of it
  pub asked-refused : {A : Type 0} (x : A) (r : Refusal) → asked d ≡ Err r → Err r ≡ answered (is_date d) x
  unfolding asked
  asked-refused x r h = answered-err (is_date d) d x r h

  -- the other way: each date of these years passes, so that no other is refused
  pub passes : DateThere d → is_date d ≡ true
  unfolding is_date is_month in_years
  passes t =
      simp (
        le-leb _ _ t.low,
        le-leb _ _ t.high,
        le-leb _ _ t.valid.month_low,
        le-leb _ _ t.valid.month_high,
        le-leb _ _ t.valid.day_low,
        le-leb _ _ t.valid.day_high,
      )

  -- what the inner functions ask of a date's parts and number
  pub small-day : DateThere d → d.day < 32
  small-day t = omega (arith, t.valid.day_high, length_high (leap d.year) d.month t.valid.month_low t.valid.month_high)

  pub small-number : DateThere d → day_number d < 5000000
  small-number t =
      omega (arith, (of-date d t.valid).counted, (of-date d t.valid).high, years-high d.year, year-high (leap d.year))
