-- The laws that the items go by.
-- Assumes nothing.
use mathlib.Core.Path.{◌≡◌, refl, ap, sym, ◌∙◌, subst}
use mathlib.Core.Bool.{Bool, false}
use mathlib.Core.List.{[], ◌∷◌}
use Prim.Native.Nat.{ℕ, ◌+◌, ◌*◌, ◌-◌, ◌^◌, ◌≤◌, ◌<◌}
use native.Mathlib.Decide.{dec_lt, ℕ_discrete}
use native.Mathlib.Omega.{arith}
use borrow.Author.Tests.{le-leb, lt-leb, lt-ltb, le-ltb, eq-eqb, ne_eqb}
use lib.Dec.{ltb, leb, eqb, leb→le}
use lib.ListN.{get_or}
use Rattle.calendar.specs.Calendar.{leap, month_length, before_month, before_year, ordinal, day_number, Valid}
use Rattle.calendar.specs.declared.Date.{Date}
use Rattle.calendar.proofs.Upto.{holds}
use Rattle.calendar.proofs.Tabled.{tabled}
use Rattle.calendar.proofs.Days.{earlier-year, earlier-month, in-year, length-low, length_high}
use Rattle.calendar.proofs.Dates.{date_of-valid, number-date_of}
use Rattle.days.specs.DayOf.{day_of}
use Rattle.days.specs.declared.Day.{Day}
use Rattle.date_items.specs.Items.{first_of, last_of, year_months_match}
use Rattle.date_items.specs.Parts.{last_month}

-- a day's date
abbrev pub date : Day → Date
date d = record { year = d.year; month = d.month; day = d.day }

-- a day knows its number
pub own-number : (s : Day) (n : ℕ) → s ≡ day_of n → s.number ≡ n
unfolding day_of
own-number s n e = ap (λ (x : Day). x.number) e

pub is-day : (s : Day) (n : ℕ) → s ≡ day_of n → s ≡ day_of s.number
is-day s n e = e ∙ ap day_of (sym (own-number s n e))

module _ (d : Day) (e : d ≡ day_of d.number) (h : 1 ≤ d.number) where
  pub day-valid : Valid (date d)
  unfolding day_of
  day-valid = subst (λ (x : Day). Valid (record { year = x.year; month = x.month; day = x.day })) (sym e) (date_of-valid d.number h)

  pub day-number : day_number (date d) ≡ d.number
  unfolding day_of
  day-number = subst (λ (x : Day). day_number (record { year = x.year; month = x.month; day = x.day }) ≡ d.number) (sym e) (number-date_of d.number)

  length-is : d.length ≡ month_length (leap d.year) d.month
  unfolding day_of
  length-is = subst (λ (x : Day). x.length ≡ month_length (leap x.year) x.month) (sym e) refl

  -- a day lies in its month, which has at most 31 days
  pub in-month : (1 ≤ d.day) × (d.day ≤ d.length) × (d.length ≤ 31)
  in-month =
      omega (
        arith,
        length-is,
        day-valid.day_low,
        day-valid.day_high,
        length_high (leap d.year) d.month day-valid.month_low day-valid.month_high,
      )

-- what a function that asks for a day's place in its month goes by
pub ruleset month_bounds = (in-month)

-- a day of an earlier month has a lower number; months are counted from the year 0
pub sooner : (d e : Date) → Valid d → 1 ≤ e.month → e.month ≤ 12 → 1 ≤ e.day →
    d.year * 12 + d.month < e.year * 12 + e.month → day_number d < day_number e
unfolding day_number ordinal
sooner d e v i j k h = by_cases (dec_lt d.year e.year)
  where
    same : (d.year < e.year → ⊥) → d.year ≡ e.year
    same f = omega (arith, v.month_low)

    by_cases : Dec (d.year < e.year) → day_number d < day_number e
    by_cases (yes l) =
        earlier-year d.year e.year (before_month (leap d.year) d.month + d.day) (before_month (leap e.year) e.month + e.day) l
        (in-year (leap d.year) d.month d.day v.month_high v.day_high)
        (omega arith)
    by_cases (no f) =
        omega (
          arith,
          earlier-month (leap d.year) d.month e.month d.day e.day (omega (arith, same f)) v.day_high k,
          ap before_year (same f),
          ap (λ y. before_month (leap y) e.month) (same f),
        )

first : ℕ → ℕ → Date
first y m = record { year = y; month = m; day = 1 }

first-valid : (y m : ℕ) → 1 ≤ m → m ≤ 12 → Valid (first y m)
unfolding first
first-valid y m i j = record { month_low = i; month_high = j; day_low = omega arith; day_high = omega (arith, length-low (leap y) m i j) }

-- the 1st of a later month is above a day
pub first_above : (d : Date) (z k : ℕ) → Valid d → 1 ≤ k → k ≤ 12 → d.year * 12 + d.month < z * 12 + k → day_number d < first_of z k
unfolding first_of first
first_above d z k v i j h = sooner d (first z k) v i j (omega arith) h

in-its-month : (d : Date) → 1 ≤ d.day → day_number d + 1 ≡ first_of d.year d.month + d.day
unfolding first_of day_number ordinal
in-its-month d h = omega arith

one-year : (y m z k : ℕ) → 1 ≤ m → m ≤ 12 → 1 ≤ k → k ≤ 12 → z * 12 + k ≡ y * 12 + m → z ≡ y
one-year y m z k a b i j h = omega arith

-- where the months agree, it is that month's 1st
same_first : (d : Date) (z k : ℕ) → Valid d → 1 ≤ k → k ≤ 12 → z * 12 + k ≡ d.year * 12 + d.month → day_number d + 1 ≡ first_of z k + d.day
same_first d z k v i j h =
    let y : z ≡ d.year = one-year d.year d.month z k v.month_low v.month_high i j h in
    let m : k ≡ d.month = omega arith in
    rw (y, m) (in-its-month d v.day_low)

pub first-upto : (d : Date) (z k : ℕ) → Valid d → 1 ≤ k → k ≤ 12 → z * 12 + k ≤ d.year * 12 + d.month → first_of z k ≤ day_number d
unfolding first_of first
first-upto d z k v i j h = by_cases (dec_lt (z * 12 + k) (d.year * 12 + d.month))
  where
    by_cases : Dec (z * 12 + k < d.year * 12 + d.month) → first_of z k ≤ day_number d
    by_cases (yes l) = omega (arith, sooner (first z k) d (first-valid z k i j) v.month_low v.month_high v.day_low l)
    by_cases (no f) = omega (arith, same_first d z k v i j (omega arith), v.day_low)

-- the 1st of an earlier month is below a day
pub first_under : (d : Date) (z k : ℕ) → Valid d → 1 ≤ k → k ≤ 12 → z * 12 + k < d.year * 12 + d.month → first_of z k < day_number d
unfolding first_of first
first_under d z k v i j h = sooner (first z k) d (first-valid z k i j) v.month_low v.month_high v.day_low h

-- the end's month and its 1st lie in one year, that year or the next
record Last (year start end : ℕ) : Type 0 where
  z : ℕ
  day : last_of year start end ≡ first_of z end
  month : last_month year start end ≡ z * 12 + end

module _ (year start end : ℕ) (i : 1 ≤ start) (j : start ≤ 12) (k : 1 ≤ end) (l : end ≤ 12) where
  last : Last year start end
  unfolding last_of last_month first_of first
  last = by_cases (dec_lt end start)
    where
      by_cases : Dec (end < start) → Last year start end
      by_cases (yes h) =
          record {
            z = year + 1;
            day = simp (lt-leb (first_of year start) (first_of year end) (first_above (first year end) year start (first-valid year end k l) i j (omega arith)));
            month = simp (lt-ltb end start h) (omega arith);
          }
      by_cases (no f) =
          record {
            z = year;
            day = simp (le-leb (first_of year start) (first_of year end) (first-upto (first year end) year start (first-valid year end k l) i j (omega arith)));
            month = simp (le-ltb end start (omega arith));
          }

  module _ (d : Day) (e : d ≡ day_of d.number) (h : 1 ≤ d.number) where
    v : Valid (date d)
    v = day-valid d e h

    n : day_number (date d) ≡ d.number
    n = day-number d e h

    -- before the first month nothing matches
    pub too-soon : d.year * 12 + d.month < year * 12 + start → false ≡ year_months_match year start end d
    unfolding year_months_match
    too-soon m = simp (lt-leb (first_of year start) d.number (omega (arith, n, first_above (date d) year start v i j m)))

    from_start : year * 12 + start ≤ d.year * 12 + d.month → first_of year start ≤ d.number
    from_start m = omega (arith, n, first-upto (date d) year start v i j m)

    -- in the last month its 1st does
    pub in-last : year * 12 + start ≤ d.year * 12 + d.month → d.year * 12 + d.month ≡ last_month year start end →
        eqb d.day 1 ≡ year_months_match year start end d
    unfolding year_months_match
    in-last m q = simp (le-leb (first_of year start) d.number (from_start m)) (by_cases (ℕ_discrete d.day 1))
      where
        at : d.number + 1 ≡ last_of year start end + d.day
        at = omega (arith, n, last.day, same_first (date d) last.z end v k l (omega (arith, last.month)))

        by_cases : Dec (d.day ≡ 1) → eqb d.day 1 ≡ leb d.number (last_of year start end)
        by_cases (yes p) = rw (eq-eqb d.day 1 p, le-leb d.number (last_of year start end) (omega (arith, at)))
        by_cases (no f) = rw (ne_eqb d.day 1 f, lt-leb d.number (last_of year start end) (omega (arith, at, v.day_low)))

    -- and before it every day
    pub off-last : year * 12 + start ≤ d.year * 12 + d.month → (d.year * 12 + d.month ≡ last_month year start end → ⊥) →
        ltb (d.year * 12 + d.month) (last_month year start end) ≡ year_months_match year start end d
    unfolding year_months_match
    off-last m f = simp (le-leb (first_of year start) d.number (from_start m)) (by_cases (dec_lt (d.year * 12 + d.month) (last_month year start end)))
      where
        first_below : last_month year start end < d.year * 12 + d.month → last_of year start end < d.number
        first_below g = omega (arith, n, last.day, first_under (date d) last.z end v k l (omega (arith, last.month)))

        by_cases : Dec (d.year * 12 + d.month < last_month year start end) →
            ltb (d.year * 12 + d.month) (last_month year start end) ≡ leb d.number (last_of year start end)
        by_cases (yes p) =
            rw (
              lt-ltb (d.year * 12 + d.month) (last_month year start end) p,
              le-leb d.number (last_of year start end) (omega (arith, n, last.day, first_above (date d) last.z end v k l (omega (arith, last.month)))),
            )
        by_cases (no g) =
            rw (
              le-ltb (d.year * 12 + d.month) (last_month year start end) (omega arith),
              lt-leb d.number (last_of year start end) (first_below (omega arith)),
            )
