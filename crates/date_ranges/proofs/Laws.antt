-- Leap days far off never match, and a day lies in its year.
-- Assumes nothing.
use mathlib.Core.Path.{◌≡◌, refl, ap, ◌∙◌}
use mathlib.Core.Bool.{Bool, true, false, cond, ◌&&◌, ◌||◌}
use mathlib.Core.List.{List}
use Rattle.std.proofs.Common.{Option, Some, None}
use Rattle.std.specs.Option.{option_or}
use Prim.Native.Nat.{ℕ, ◌+◌, ◌-◌, ◌≤◌, ◌<◌}
use native.Mathlib.Omega.{arith}
use borrow.Author.Tests.{lt-leb}
use lib.IntN.{ℤ, nat_abs}
use mir.Syntax.{w16}
use mir.Val.{to_z, of_z}
use Rattle.calendar.specs.Calendar.{leap, month_length, before_month, before_year, ordinal, day_number}
use Rattle.calendar.specs.Parts.{Settled}
use Rattle.calendar.specs.Moved.{moved}
use Rattle.calendar.proofs.Days.{year-suc, year-low, year-high, years-mono}
use Rattle.calendar.proofs.Direct.{directly}
use Rattle.calendar.proofs.Offsets.{moved-high, again}
use Rattle.days.specs.DayOf.{day_of}
use Rattle.days.specs.declared.Day.{Day}
use Rattle.days.proofs.Laws.{known, year-from}
use Rattle.rules.specs.declared.DateOffset.{DateOffset}
use Rattle.intervals.specs.Intervals.{intervals, decides}
use Rattle.date_bounds.specs.Bounds.{own_year, BoundOk, Before}
use Rattle.date_bounds.proofs.OnYear.{moved-low, own-ok}
use Rattle.date_ranges.specs.Ranges.{match_in, inside, first_proper, leap_day, leap_day_in, some, leap_days_match, undated_match, given_year, dated_match, dates_match}

and-false : (b : Bool) → (b && false) ≡ false
and-false true = refl
and-false false = refl

or-false : (b : Bool) → (b || false) ≡ b
or-false true = refl
or-false false = refl

january : (l : Bool) → before_month l 2 ≡ 31
unfolding before_month month_length
january true = refl
january false = refl

-- 29 February is day 60
pub sixty : (y : ℕ) → before_year y + 60 ≡ leap_day y
unfolding leap_day day_number ordinal
sixty y = omega (arith, january (leap y))

inside_past : (s e n : ℕ) → e < n → inside s e n ≡ false
unfolding inside
inside_past s e n h = simp (lt-leb n e h, and-false)

inside-soon : (s e n : ℕ) → n < s → inside s e n ≡ false
unfolding inside
inside-soon s e n h = simp (lt-leb s n h)

two-on : (y z : ℕ) → y + 2 ≤ z → before_year (y + 1) + 365 ≤ before_year z
two-on y z h =
    let e : y + 1 + 1 + (z - (y + 2)) ≡ z = omega arith in
    omega (arith, year-suc (y + 1), year-low (leap (y + 1)), years-mono (y + 1 + 1) (z - (y + 2)), ap before_year e)

module _ (a b : ℤ) (n y : ℕ) (i : nat_abs a ≤ 366) (j : nat_abs b ≤ 366) where
  -- the leap day of a year two or more before, or after, that of the day
  long-ago : (z : ℕ) → z + 2 ≤ y → before_year y < n → leap_day_in a b n z ≡ false
  unfolding leap_day_in
  long-ago z h k = by_cases (leap z)
    where
      by_cases : (l : Bool) → cond l (inside (moved (leap_day z) a) (moved (leap_day z) b) n) false ≡ false
      by_cases true =
          inside_past (moved (leap_day z) a) (moved (leap_day z) b) n
          (omega (arith, sixty z, moved-high (leap_day z) b, two-on z y h, year-suc z, year-low (leap z)))
      by_cases false = refl

  far-ahead : (z : ℕ) → y + 2 ≤ z → n ≤ before_year y + 366 → leap_day_in a b n z ≡ false
  unfolding leap_day_in
  far-ahead z h k = by_cases (leap z)
    where
      by_cases : (l : Bool) → cond l (inside (moved (leap_day z) a) (moved (leap_day z) b) n) false ≡ false
      by_cases true =
          inside-soon (moved (leap_day z) a) (moved (leap_day z) b) n
          (omega (arith, sixty z, moved-low (leap_day z) a, two-on y z h, year-suc y, year-low (leap y)))
      by_cases false = refl

  -- so that three years are enough
  pub three-years : 4 ≤ y → before_year y < n → n ≤ before_year y + 366 →
      leap_days_match a b y n ≡ (leap_day_in a b n (y - 1) || (leap_day_in a b n y || leap_day_in a b n (y + 1)))
  unfolding leap_days_match some
  three-years h k l =
      simp (
        long-ago (y - 4) (omega arith) k,
        long-ago (y - 3) (omega arith) k,
        long-ago (y - 2) (omega arith) k,
        far-ahead (y + 2) (omega arith) l,
        far-ahead (y + 3) (omega arith) l,
        far-ahead (y + 4) (omega arith) l,
        or-false,
      )

-- the days before a day's year
module _ (d : Day) (e : d ≡ day_of d.number) (h : 693961 ≤ d.number) (k : d.number ≤ 3652425) where
  in-its-year : Settled d.number d.year d.ordinal
  in-its-year = known d e (omega arith)

  pub ordinal-upto : d.ordinal ≤ d.number
  ordinal-upto = omega (arith, in-its-year.counted)

  pub its-year : (1801 ≤ d.year) × (d.year ≤ 9999)
  its-year = (omega (arith, year-from {k = 1890} in-its-year (omega arith)), omega (arith, not_late))
    where
      not_late : 10000 ≤ d.year → ⊥
      not_late l =
          let e : 10000 + (d.year - 10000) ≡ d.year = omega arith in
          omega (arith, in-its-year.counted, in-its-year.low, directly 10000, years-mono 10000 (d.year - 10000), ap before_year e)

  pub its-before : Before d.year (d.number - d.ordinal)
  its-before = record { is = omega (arith, in-its-year.counted); low = omega (arith, its-year); high = omega (arith, its-year) }

  pub in_reach : (d.number - d.ordinal < d.number) × (d.number ≤ d.number - d.ordinal + 366)
  in_reach = omega (arith, in-its-year.counted, in-its-year.low, in-its-year.high, year-high (leap d.year))

-- equal bounds give equal answers
pub same-proper : {s a e l t b f m : Option ℕ} (n : ℕ) → s ≡ t → a ≡ b → e ≡ f → l ≡ m → first_proper s a e l n ≡ first_proper t b f m n
same-proper n p q r t = rw (p, q, r, t)

pub same-intervals : {s t e f : List (Option ℕ)} (n : ℕ) → s ≡ t → e ≡ f → decides n (intervals s e) ≡ decides n (intervals t f)
same-intervals n p q = rw (p, q)

-- a leap year has its interval, a common year none
module _ (a b : ℤ) (n y before : ℕ) where
  pub leap-yes : leap y ≡ true → before ≡ before_year y → inside (moved (before + 60) a) (moved (before + 60) b) n ≡ leap_day_in a b n y
  unfolding leap_day_in
  leap-yes h e = rw (h, ← (sixty y), e)

  pub leap-no : leap y ≡ false → false ≡ leap_day_in a b n y
  unfolding leap_day_in
  leap-no h = rw h

-- so that the code's three tests are the definition
pub three_tests : (a b : ℤ) (y n : ℕ) → nat_abs a ≤ 366 → nat_abs b ≤ 366 → 4 ≤ y → before_year y < n → n ≤ before_year y + 366 →
    leap_days_match a b y n ≡
    (leap_day_in (to_z w16 (of_z w16 a)) (to_z w16 (of_z w16 b)) n (y - 1)
    || (leap_day_in (to_z w16 (of_z w16 a)) (to_z w16 (of_z w16 b)) n y || leap_day_in (to_z w16 (of_z w16 a)) (to_z w16 (of_z w16 b)) n (y + 1)))
three_tests a b y n h k i l m = rw (again a h, again b k) (three-years a b n y h k i l m)

-- offsets come back from their bits
pub kept_all : (a b : ℤ) (y n : ℕ) → nat_abs a ≤ 366 → nat_abs b ≤ 366 → leap_days_match (to_z w16 (of_z w16 a)) (to_z w16 (of_z w16 b)) y n ≡ leap_days_match a b y n
kept_all a b y n h k = rw (again a h, again b k)

module _ (start end : DateOffset) where
  pub given_is : {a b : Option ℕ} → a ≡ own_year start.date → b ≡ own_year end.date → option_or a b ≡ given_year start end
  unfolding given_year
  given_is e f = rw (e, f)

  pub given-within : (n : ℕ) → BoundOk start → BoundOk end → given_year start end ≡ Some n → (1900 ≤ n) × (n ≤ 9999)
  unfolding given_year
  given-within n k l e = by_cases (own_year start.date) refl e
    where
      by_cases : (o : Option ℕ) → own_year start.date ≡ o → option_or o (own_year end.date) ≡ Some n → (1900 ≤ n) × (n ≤ 9999)
      by_cases (Some y) f g = own-ok start.date n k.date (f ∙ g)
      by_cases None f g = own-ok end.date n l.date g

  pub no-year : (d : Day) → given_year start end ≡ None → undated_match start end d.year d.number ≡ dates_match start end d
  unfolding dates_match match_in
  no-year d e = rw e

  pub with-year : (d : Day) (y : ℕ) → given_year start end ≡ Some y → dated_match start end y d.number ≡ dates_match start end d
  unfolding dates_match match_in
  with-year d y e = rw e
