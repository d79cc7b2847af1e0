-- Every starred example comes out: by computing, or by the laws of its floor where computing would take long.
-- Assumes nothing.
use mathlib.Core.Path.{◌≡◌, refl, ap}
use mathlib.Core.List.{List, [], ◌∷◌}
use Prim.Native.Nat.{ℕ, ◌+◌, ◌-◌, ◌≤◌}
use lib.Dec.{lit≤}
use Rattle.calendar.specs.Calendar.{leap, month_length, before_month, before_year, year_length, ordinal, day_number, weekday}
use Rattle.calendar.specs.Parts.{Settled}
use Rattle.calendar.proofs.Weeks.{week-is}
use Rattle.easter.specs.Easter.{golden, sun, moon, epact, used_epact, full_moon, sunday_after, easter_number}
use Rattle.days.specs.declared.Day.{Day}
use Rattle.extended_time.specs.Moments.{moment_of, signed_moment, sum_of}
use Rattle.starred.specs.Starred.{found}
use Rattle.date_filter.proofs.Examples.{february-30-ends, february-30-starts, last-friday, no-fifth-friday}
use Rattle.time_filter.specs.declared.Events.{Events}
use Rattle.time_filter.specs.Spans.{event_at, after, time_at, before, summer, morning, start_missing, filled_span, later_end, wrapped_end, interval_of}
use Rattle.starred.specs.Starred.{AllHold, on, starred}

-- the Thursday of a day's week is day o of year y
abbrev ThursdayIs : ℕ → ℕ → ℕ → Type 0
ThursdayIs n y o = Settled (n + 3 - weekday n) y o

in-2020 : ThursdayIs (on 2021 1 1) 2020 366
unfolding day_number ordinal before_year year_length leap before_month month_length weekday
in-2020 = record { counted = refl; low = lit≤ tt; high = lit≤ tt }

in-2025 : ThursdayIs (on 2024 12 30) 2025 2
unfolding day_number ordinal before_year year_length leap before_month month_length weekday
in-2025 = record { counted = refl; low = lit≤ tt; high = lit≤ tt }

late-2021 : 4 ≤ on 2021 1 1
unfolding day_number ordinal before_year year_length leap before_month month_length
late-2021 = lit≤ tt

late-2024 : 4 ≤ on 2024 12 30
unfolding day_number ordinal before_year year_length leap before_month month_length
late-2024 = lit≤ tt

easter-2024 : easter_number 2024 ≡ on 2024 3 31
unfolding easter_number sunday_after full_moon used_epact epact golden sun moon weekday day_number ordinal before_year year_length leap before_month month_length
easter-2024 = refl

abbrev alone : ℕ → List ℕ
alone n = n ∷ []

-- THE STARRED EXAMPLES, for any row and any day where one stands in them
pub all-starred : (r : Events) (x : Day) → AllHold (starred r x)
unfolding interval_of wrapped_end later_end filled_span start_missing time_at event_at after moment_of signed_moment sum_of summer before morning
all-starred r x =
    (ap found february-30-ends, (ap found february-30-starts, (ap alone easter-2024, (ap alone (week-is late-2021 in-2020), (ap alone (week-is late-2024 in-2025), (ap found last-friday, (ap found no-fifth-friday, (refl, (refl, (refl, (refl, (refl, (refl, tt)))))))))))))
