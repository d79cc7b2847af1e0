-- What each day of a shop tells.
use Rattle.std.specs.Prelude.{ℕ}
use Rattle.ranges.specs.States.{Shown}
use Rattle.rules.specs.declared.Sheet.{Sheet}
use Rattle.time_filter.specs.declared.Events.{Events}
use Rattle.date_filter.specs.Filter.{Holidays}
use Rattle.reading.specs.Reading.{day_at}
use Rattle.reading.specs.Ranging.{Ranged, over64, gives}
use Rattle.opening_hours.specs.Hours.{rules_on, day_ranged}
use Rattle.changes.specs.Search.{Told, refuses, tells}

-- the range reading decides whether a day is refused; if it isn't, the minute reading says what it shows
abbrev pub told : Ranged → (ℕ → Shown) → Told
told (over64 r) f = refuses r
told (gives e) f = tells f

-- day n of the shop with the holidays h, the event times of the row and the rules of the sheet
unfoldable pub shop_day : Holidays → Events → Sheet → ℕ → Told
shop_day h row sheet n = told (day_ranged h row n sheet) (day_at (rules_on h row n sheet))
