-- What a range of dates says of a day: with a year, from 29 February to 29 February, and the others.
-- Assumes nothing.
use Rattle.std.specs.Prelude.{ℕ, ◌+◌, ◌-◌, Bool, false, cond, ◌&&◌, ◌||◌, List, [], ◌∷◌, Option, Some, None, eqb, leb, ℤ}
use Rattle.std.specs.Option.{option_or, unwrap_or}
use Rattle.calendar.specs.Calendar.{leap, day_number}
use Rattle.calendar.specs.Moved.{moved}
use Rattle.days.specs.declared.Day.{Day}
use Rattle.rules.specs.declared.Date.{Date}
use Rattle.rules.specs.declared.Date.TheVariants.{Fixed, Weekday, Easter}
use Rattle.rules.specs.declared.DateOffset.{DateOffset}
use Rattle.intervals.specs.Intervals.{intervals, decides}
use Rattle.date_bounds.specs.Bounds.{as_start, as_end, own_year, bound_on}

-- start ≤ n ≤ end
unfoldable pub inside : ℕ → ℕ → ℕ → Bool
inside start end n = leb start n && leb n end

-- a pair that has a start at or before its end says of a day whether it contains it; any other says nothing
unfoldable pub proper : Option ℕ → Option ℕ → ℕ → Option Bool
proper (Some start) (Some end) n = cond (leb start end) (Some (inside start end n)) None
proper (Some start) None n = None
proper None end n = None

-- of (start, end), (earlier start, end), (start, later end): the first with start ≤ end is the only interval
unfoldable pub first_proper : Option ℕ → Option ℕ → Option ℕ → Option ℕ → ℕ → Bool
first_proper start earlier end later n =
    unwrap_or (option_or (proper start end n) (option_or (proper earlier end n) (proper start later n))) false

-- dates with a year: try (Y, Y), (Y - 1, Y), (Y, Y + 1), own years winning
unfoldable pub dated_match : DateOffset → DateOffset → ℕ → ℕ → Bool
dated_match start end y n = first_proper (bound_on as_start start y) (bound_on as_start start (y - 1)) (bound_on as_end end y) (bound_on as_end end (y + 1)) n

-- 29 February, no year
unfoldable pub is_leap_day : Date → Bool
is_leap_day (Fixed own m d) = eqb own 0 && (eqb m 2 && eqb d 29)
is_leap_day (Weekday own m w nth) = false
is_leap_day (Easter own) = false

unfoldable pub leap_day : ℕ → ℕ
leap_day y = day_number (record { year = y; month = 2; day = 29 })

-- the interval of a leap year, moved by the offsets
unfoldable pub leap_day_in : ℤ → ℤ → ℕ → ℕ → Bool
leap_day_in a b n y = cond (leap y) (inside (moved (leap_day y) a) (moved (leap_day y) b) n) false

-- one of a list passes
unfoldable pub some : {A : Type 0} → (A → Bool) → List A → Bool
some p [] = false
some p (x ∷ xs) = p x || some p xs

-- both 29 February, no year: one interval per leap year within 4 years
unfoldable pub leap_days_match : ℤ → ℤ → ℕ → ℕ → Bool
leap_days_match a b y n =
    some (leap_day_in a b n) ((y - 4) ∷ (y - 3) ∷ (y - 2) ∷ (y - 1) ∷ y ∷ (y + 1) ∷ (y + 2) ∷ (y + 3) ∷ (y + 4) ∷ [])

-- the years before, of and after
unfoldable pub around : (ℕ → Option ℕ) → ℕ → List (Option ℕ)
around f y = f (y - 1) ∷ f y ∷ f (y + 1) ∷ []

-- other dates: the starts and ends of these years, paired
unfoldable pub other_match : DateOffset → DateOffset → ℕ → ℕ → Bool
other_match start end y n = decides n (intervals (around (bound_on as_start start) y) (around (bound_on as_end end) y))

-- without a year; the dates are compared without their offsets
unfoldable pub undated_match : DateOffset → DateOffset → ℕ → ℕ → Bool
undated_match start end y n =
    cond (is_leap_day start.date && is_leap_day end.date)
    (leap_days_match start.offset end.offset y n)
    (other_match start end y n)

-- the year given: the start's, else the end's
unfoldable pub given_year : DateOffset → DateOffset → Option ℕ
given_year start end = option_or (own_year start.date) (own_year end.date)

unfoldable pub match_in : Option ℕ → DateOffset → DateOffset → Day → Bool
match_in (Some y) start end d = dated_match start end y d.number
match_in None start end d = undated_match start end d.year d.number

unfoldable pub dates_match : DateOffset → DateOffset → Day → Bool
dates_match start end d = match_in (given_year start end) start end d
