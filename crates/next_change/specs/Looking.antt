-- What a look at one day leaves, and what the search asks.
use Rattle.std.specs.Prelude.{◌≡◌, List, ℕ, ◌+◌, ◌-◌, ◌≤◌}
use Rattle.days.specs.declared.Day.{Day}
use Rattle.days.specs.DayOf.{day_of}
use Rattle.rules.specs.declared.Sheet.{Sheet}
use Rattle.rule_image.specs.Limits.{SheetOk}
use Rattle.intervals.specs.Intervals.{last_day}
use Rattle.date_filter.specs.Filter.{Holidays, Sound}
use Rattle.ranges.specs.States.{Shown}
use Rattle.listing.specs.Listing.{state_word}
use Rattle.changes.specs.Search.{Told, shown_at, other, today}
use Rattle.changes.specs.Words.{state_in, shown_in}
use Rattle.next_change.specs.declared.Look.{Look}
use Rattle.next_change.specs.declared.Since.{Since}
use Rattle.next_change.specs.declared.Since.TheVariants.{Minute, Before}

-- the state that holds since then, on a day that tells a
abbrev pub held : Since → Told → Shown
held (Minute t) a = shown_at a t
held (Before s) a = state_in s

-- the first minute of the day that may show another
abbrev pub from : Since → ℕ
from (Minute t) = t + 1
from (Before s) = 0

-- a look at words from minute t on, for the state of s
abbrev pub look_for : List ℕ → ℕ → ℕ → Look
look_for xs s t = record { state = s; minute = today (other (λ u. shown_in xs u) (state_in s) t (1440 - t)) }

-- and since a minute, whose state the words show, or since a day before
abbrev pub look_in : List ℕ → Since → Look
look_in xs (Minute t) = look_for xs (state_word (shown_in xs t)) (t + 1)
look_in xs (Before s) = look_for xs s 0

-- on a day that shows f: the state s, and the first minute from t on that doesn't show it, where there is one
pub record Looks (f : ℕ → Shown) (s : Shown) (t : ℕ) (x : Look) : Type 0 where
  pub state : state_in x.state ≡ s
  pub minute : x.minute ≡ today (other f s t (1440 - t))

-- sound images, a sheet within its limits, and so many days from one of the year 1 or later on, up to 9999
pub record Searchable (h : Holidays) (sheet : Sheet) (d : Day) (count : ℕ) : Type 0 where
  pub sound : Sound h
  pub limits : SheetOk sheet
  pub day : d ≡ day_of d.number
  pub low : 367 ≤ d.number
  pub high : count ≤ last_day - d.number
