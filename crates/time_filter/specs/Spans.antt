-- Spans of time: what a span covers on its day, and on into the next.
use Rattle.std.specs.Prelude.{Bool, false, not, cond, ◌&&◌, ◌||◌, List, [], ◌∷◌, ℕ, ◌+◌, min, leb, ltb, eqb, ℤ, get_or, Option, Some, None}
use Rattle.std.specs.Bool.{beq}
use Rattle.std.specs.Int.Signed.{le_z}
use Rattle.days.specs.declared.Day.{Day}
use Rattle.rules.specs.declared.Time.{Time}
use Rattle.rules.specs.declared.Time.TheVariants.{Fixed, Variable}
use Rattle.rules.specs.declared.TimeSpan.{TimeSpan}
use Rattle.extended_time.specs.Moments.{moment_of, sum_of}
use Rattle.extended_time.specs.declared.ExtendedTime.{ExtendedTime}
use Rattle.time_filter.specs.declared.Events.{Events}
use Rattle.time_filter.specs.declared.Interval.{Interval}

-- the row: events 0 dawn, 1 sunrise, 2 sunset, 3 dusk
abbrev pub times : Events → List ℕ
times r = r.dawn ∷ r.sunrise ∷ r.sunset ∷ r.dusk ∷ []

-- an event's moment; 65535, being past 48:00, is none, and so is a fifth event
unfoldable pub event_at : Events → ℕ → Option ExtendedTime
event_at r e = moment_of (get_or (times r) e 65535)

-- minutes after a moment, or before it
unfoldable pub after : Option ExtendedTime → ℤ → Option ExtendedTime
after (Some x) z = sum_of x.minutes z
after None z = None

-- a variable time is event plus offset, missing if the event is none or the sum outside 0 to 2880; a fixed one is missing past 2880,
-- which no accepted image holds
unfoldable pub time_at : Events → Time → Option ExtendedTime
time_at r (Fixed n) = moment_of n
time_at r (Variable e z) = after (event_at r e) z

-- a day before the date k of month m, by month and then day
unfoldable pub before : ℕ → ℕ → Day → Bool
before m k d = cond (eqb d.month m) (ltb d.day k) (ltb d.month m)

-- 20 March up to, not including, 22 September
unfoldable pub summer : Day → Bool
summer d = not (before 3 20 d) && before 9 22 d

-- dawn or sunrise; a fixed time is neither
unfoldable pub morning : Time → Bool
morning (Fixed n) = false
morning (Variable e z) = leb e 1

-- start ≤ end, by event and then offset
unfoldable pub not_after : Time → Time → Bool
not_after (Fixed n) t = false
not_after (Variable e y) (Fixed n) = false
not_after (Variable e y) (Variable f z) = cond (eqb e f) (le_z y z) (ltb e f)

-- from a minute up to, not including, another
abbrev pub from_to : ℕ → ℕ → Option Interval
from_to s e = Some (record { start = s; end = e })

-- start missing: 00:00 if (dawn or sunrise) equals summer, else no cover
unfoldable pub start_missing : Bool → Time → ℕ → Option Interval
start_missing s a e = cond (beq (morning a) s) (from_to 0 e) None

-- end missing: 24:00 if the end's event fails that equality, else no cover
unfoldable pub end_missing : Bool → Time → ℕ → Option Interval
end_missing s b n = cond (beq (morning b) s) None (from_to n 1440)

-- both missing: the full day if (start ≤ end) equals summer, else no cover
unfoldable pub both_missing : Bool → Time → Time → Option Interval
both_missing s a b = cond (beq (not_after a b) s) (from_to 0 1440) None

-- the span with its two moments, in summer or not
unfoldable pub filled_span : Bool → TimeSpan → Option ExtendedTime → Option ExtendedTime → Option Interval
filled_span s p (Some x) (Some y) = from_to x.minutes y.minutes
filled_span s p None (Some y) = start_missing s p.start y.minutes
filled_span s p (Some x) None = end_missing s p.end x.minutes
filled_span s p None None = both_missing s p.start p.end

-- if start < end keep it, else end gains 24 h, at most 48:00
unfoldable pub later_end : ℕ → ℕ → ℕ
later_end s e = cond (ltb s e) e (min (e + 1440) 2880)

unfoldable pub wrapped_end : Option Interval → Option Interval
wrapped_end (Some i) = from_to i.start (later_end i.start i.end)
wrapped_end None = None

-- a span on its own day, with that day's events: from a minute up to, not including, another; or nothing
unfoldable pub interval_of : Events → Day → TimeSpan → Option Interval
interval_of r d p = wrapped_end (filled_span (summer d) p (time_at r p.start) (time_at r p.end))

-- it covers start ≤ t < end
unfoldable pub within : Option Interval → ℕ → Bool
within (Some i) t = leb i.start t && ltb t i.end
within None t = false

-- THE COVER: whether a span covers minute t of its own day, the next day's minutes from 1440 on
abbrev pub covers : Events → Day → TimeSpan → ℕ → Bool
covers r d p t = within (interval_of r d p) t

-- some span of a list does
abbrev pub covered : Events → Day → List TimeSpan → ℕ → Bool
covered r d [] t = false
covered r d (p ∷ l) t = covers r d p t || covered r d l t
