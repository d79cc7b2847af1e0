-- The worked examples of spans.
-- Assumes nothing.
use mathlib.Core.Path.{◌≡◌, refl}
use Prim.Native.Nat.{ℕ}
use mathlib.Core.Bool.{◌&&◌}
use lib.Dec.{leb, ltb}
use lib.IntN.{pos, negsuc}
use Rattle.days.specs.declared.Day.{Day}
use Rattle.rules.specs.declared.Time.{Time}
use Rattle.rules.specs.declared.Time.TheVariants.{Fixed, Variable}
use Rattle.rules.specs.declared.TimeSpan.{TimeSpan}
use Rattle.extended_time.specs.Moments.{moment_of, signed_moment, sum_of}
use Rattle.time_filter.specs.declared.Events.{Events}
use Rattle.std.proofs.Common.{None}
use Rattle.time_filter.specs.Spans.{from_to, event_at, after, time_at, before, summer, morning, not_after, start_missing, end_missing, both_missing, filled_span, later_end, wrapped_end, interval_of, within, covers}

abbrev span : Time → Time → TimeSpan
span a b = record { start = a; end = b }

-- 10:00-10:00 covers 600 to 2040
pub ten-to-ten : (r : Events) (d : Day) (t : ℕ) → covers r d (span (Fixed 600) (Fixed 600)) t ≡ (leb 600 t && ltb t 2040)
unfolding within interval_of wrapped_end later_end filled_span time_at moment_of
ten-to-ten r d t = refl

-- 30:00-26:00 covers 1800 to 2880
pub thirty-to-twenty-six : (r : Events) (d : Day) (t : ℕ) → covers r d (span (Fixed 1800) (Fixed 1560)) t ≡ (leb 1800 t && ltb t 2880)
unfolding within interval_of wrapped_end later_end filled_span time_at moment_of
thirty-to-twenty-six r d t = refl

-- 26:00-01:00 ends before it starts, even with a day more: it covers nothing
pub never : (r : Events) (d : Day) → interval_of r d (span (Fixed 1560) (Fixed 60)) ≡ from_to 1560 1500
unfolding interval_of wrapped_end later_end filled_span time_at moment_of
never r d = refl

-- any day of a month and day, and a row with no sunrise and the sunset at 19:00
module _ (number year ordinal weekday length week dawn dusk : ℕ) where
  abbrev on : ℕ → ℕ → Day
  on m k = record { number = number; year = year; ordinal = ordinal; month = m; day = k; weekday = weekday; length = length; week = week }

  abbrev row : Events
  row = record { dawn = dawn; sunrise = 65535; sunset = 1140; dusk = dusk }

  abbrev early : Events
  early = record { dawn = dawn; sunrise = 420; sunset = 1140; dusk = dusk }

  abbrev unlit : Events
  unlit = record { dawn = dawn; sunrise = 420; sunset = 65535; dusk = dusk }

  abbrev light : TimeSpan
  light = span (Variable 1 (pos 0)) (Variable 2 (pos 0))

  -- 20 March: 00:00-19:00
  pub no-sunrise-in-summer : interval_of row (on 3 20) light ≡ from_to 0 1140
  unfolding interval_of wrapped_end later_end filled_span start_missing time_at event_at after moment_of signed_moment sum_of summer before morning
  no-sunrise-in-summer = refl

  -- 19 March: nothing
  pub no-sunrise-before : interval_of row (on 3 19) light ≡ None
  unfolding interval_of wrapped_end later_end filled_span start_missing time_at event_at after moment_of signed_moment sum_of summer before morning
  no-sunrise-before = refl

  -- 1 June: 25:00 to a missing sunset ends at 24:00, which gains a day
  pub late-to-sunset : interval_of unlit (on 6 1) (span (Fixed 1500) (Variable 2 (pos 0))) ≡ from_to 1500 2880
  unfolding interval_of wrapped_end later_end filled_span end_missing time_at event_at after moment_of signed_moment sum_of summer before morning
  late-to-sunset = refl

  -- 1 June: both missing and equal, the full day
  pub sunset-to-sunset : interval_of unlit (on 6 1) (span (Variable 2 (pos 0)) (Variable 2 (pos 0))) ≡ from_to 0 1440
  unfolding interval_of wrapped_end later_end filled_span both_missing time_at event_at after moment_of signed_moment sum_of summer before not_after
  sunset-to-sunset = refl

  -- 1 December: 421 minutes before a sunrise at 07:00 is missing, and not 00:00
  pub before-midnight : interval_of early (on 12 1) (span (Variable 1 (negsuc 420)) (Fixed 600)) ≡ None
  unfolding interval_of wrapped_end later_end filled_span start_missing time_at event_at after moment_of signed_moment sum_of summer before morning
  before-midnight = refl
