-- The starred examples: what the definitions give, and what it must be, each as a list of numbers.
use Rattle.std.specs.Prelude.{◌≡◌, List, [], ◌∷◌, map, ℕ, pos, negsuc, Option, Some, None}
use Rattle.calendar.specs.Calendar.{day_number, iso_week}
use Rattle.easter.specs.Easter.{easter_number}
use Rattle.days.specs.declared.Day.{Day}
use Rattle.rules.specs.declared.Date.TheVariants as date
use Rattle.rules.specs.declared.Time.{Time}
use Rattle.rules.specs.declared.Time.TheVariants as time
use Rattle.date_bounds.specs.Bounds.{as_start, as_end, date_on}
use Rattle.time_filter.specs.declared.Events.{Events}
use Rattle.time_filter.specs.declared.Interval.{Interval}
use Rattle.time_filter.specs.Spans.{interval_of}
use Rattle.ranges.specs.Range.{Range}
use Rattle.ranges.specs.Insertion.{add_r}
use Rattle.ranges.specs.Words.{word_of}

pub record Example : Type 0 where
  pub gives : List ℕ
  pub due : List ℕ

-- each example of a list comes out
abbrev pub AllHold : List Example → Type 0
AllHold [] = Unit {0}
AllHold (e ∷ l) = (e.gives ≡ e.due) × AllHold l

-- a number that must be another
abbrev pub is : ℕ → ℕ → Example
is a b = record { gives = a ∷ []; due = b ∷ [] }

-- the number of a day that is found, none where there is none
abbrev pub found : Option ℕ → List ℕ
found (Some n) = n ∷ []
found None = []

-- the number of a date
abbrev pub on : ℕ → ℕ → ℕ → ℕ
on y m d = day_number (record { year = y; month = m; day = d })

-- start and end of what a span covers, none where it covers nothing
abbrev pub ends : Option Interval → List ℕ
ends (Some i) = i.start ∷ i.end ∷ []
ends None = []

-- a span on day d of its month and month m, the rest of the day and the row whatever they are, but no sunrise and sunset at 19:00
abbrev pub span_on : Events → Day → ℕ → ℕ → Time → Time → List ℕ
span_on r x m d a b =
    ends (interval_of
    (record { dawn = r.dawn; sunrise = 65535; sunset = 1140; dusk = r.dusk })
    (record {
      number = x.number;
      year = x.year;
      ordinal = x.ordinal;
      month = m;
      day = d;
      weekday = x.weekday;
      length = x.length;
      week = x.week;
    })
    (record { start = a; end = b }))

abbrev pub words : List Range → List ℕ
words l = map word_of l

abbrev pub range : ℕ → ℕ → ℕ → ℕ → Range
range a b k c = record { start = a; end = b; kind = k; comment = c }

-- THE LIST. r and x stand for any row of events and any day.
abbrev pub starred : Events → Day → List Example
starred r x =
    -- 2021/02/30 as an end, and as a start
    record { gives = found (date_on as_end (date.Fixed 2021 2 30) 2021); due = on 2021 2 28 ∷ [] }
    ∷ record { gives = found (date_on as_start (date.Fixed 2021 2 30) 2021); due = on 2021 3 1 ∷ [] }
    -- Easter 2024
    ∷ is (easter_number 2024) (on 2024 3 31)
    -- ISO weeks
    ∷ is (iso_week (on 2021 1 1)) 53
    ∷ is (iso_week (on 2024 12 30)) 1
    -- the last Friday of February 2021; the fifth from the end is none
    ∷ record { gives = found (date_on as_end (date.Weekday 0 2 4 (negsuc 0)) 2021); due = on 2021 2 26 ∷ [] }
    ∷ record { gives = found (date_on as_end (date.Weekday 0 2 4 (negsuc 4)) 2021); due = [] }
    -- 10:00-10:00; 30:00-26:00
    ∷ record { gives = span_on r x x.month x.day (time.Fixed 600) (time.Fixed 600); due = 600 ∷ 2040 ∷ [] }
    ∷ record { gives = span_on r x x.month x.day (time.Fixed 1800) (time.Fixed 1560); due = 1800 ∷ 2880 ∷ [] }
    -- sunrise to sunset without a sunrise: 20 March, 19 March
    ∷ record { gives = span_on r x 3 20 (time.Variable 1 (pos 0)) (time.Variable 2 (pos 0)); due = 0 ∷ 1140 ∷ [] }
    ∷ record { gives = span_on r x 3 19 (time.Variable 1 (pos 0)) (time.Variable 2 (pos 0)); due = [] }
    -- open 600-1080 plus unknown 720-780; plus open 1080-1200
    ∷ record {
      gives = words (add_r (range 600 1080 0 0 ∷ []) (range 720 780 2 0 ∷ []));
      due = words (range 600 720 0 0 ∷ range 720 780 2 0 ∷ range 780 1080 0 0 ∷ []);
    }
    ∷ record {
      gives = words (add_r (range 600 1080 0 0 ∷ []) (range 1080 1200 0 0 ∷ []));
      due = words (range 600 1200 0 0 ∷ []);
    }
    ∷ []
