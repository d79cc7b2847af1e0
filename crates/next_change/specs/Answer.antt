-- The answer to the question for the next change.
use Rattle.std.specs.Prelude.{Bool, cond, ◌&&◌, List, ℕ, Some, None, Result, Ok, Err, leb}
use Rattle.refusals.specs.declared.Cause.TheVariants.{NoDate, TooManyRanges}
use Rattle.refusals.specs.declared.Refusal.{Refusal}
use Rattle.calendar.specs.Calendar.{day_number, date_of}
use Rattle.calendar.specs.declared.Date.{Date}
use Rattle.dates.specs.Exists.{is_date}
use Rattle.rules.specs.declared.Sheet.{Sheet}
use Rattle.time_filter.specs.declared.Events.{Events}
use Rattle.date_filter.specs.Filter.{Holidays}
use Rattle.inputs.specs.Inputs.{inputs_of}
use Rattle.changes.specs.Days.{within}
use Rattle.changes.specs.Search.{Found, stopped, changes, never, next_change}
use Rattle.next_change.specs.Shop.{shop_day}
use Rattle.next_change.specs.declared.Change.{Change}
use Rattle.next_change.specs.declared.Refused.{Refused}

-- a date, a minute of the day, at most 3660 days
unfoldable pub can_ask : Date → ℕ → ℕ → Bool
can_ask date t days = is_date date && (leb t 1439 && leb days 3660)

-- a refusal of the inputs or the question, which is no day's
abbrev pub undated : Refusal → Refused
undated f = record { refusal = f; date = None }

-- a day refused by 8 at a rule
abbrev pub refused_on : Date → ℕ → Refused
refused_on d rule = record { refusal = record { cause = TooManyRanges; place = rule }; date = Some d }

abbrev pub change_on : Date → ℕ → ℕ → Change
change_on d m count = record { at = Some (record { date = d; minute = m }); examined = count }

abbrev pub no_change : ℕ → Change
no_change count = record { at = None; examined = count }

abbrev pub change_of : Found → Result Change Refused
change_of (stopped n rule) = Err (refused_on (date_of n) rule)
change_of (changes n m count) = Ok (change_on (date_of n) m count)
change_of (never count) = Ok (no_change count)

-- from the inputs' sheet, or their refusal: 7 for the question, else what the search finds
abbrev pub change_asked : Result Sheet Refusal → Events → Holidays → Date → ℕ → ℕ → Result Change Refused
change_asked (Err f) row h date t days = Err (undated f)
change_asked (Ok sheet) row h date t days =
    cond (can_ask date t days)
    (change_of (next_change (shop_day h row sheet) (day_number date) t (within days (day_number date))))
    (Err (undated (record { cause = NoDate; place = 0 })))

-- THE ANSWER: refused by the inputs' refusal, else by 7, else what the search finds
unfoldable pub change_answer : List ℕ → Events → Holidays → Date → ℕ → ℕ → Result Change Refused
change_answer rules row h date t days = change_asked (inputs_of rules row h) row h date t days
