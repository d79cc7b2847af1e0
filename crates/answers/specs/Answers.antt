-- What the program writes for its input: the lines of the day's listing, a refusal, or that the input is badly framed.
use Rattle.std.specs.Prelude.{◌≡◌, Result, Ok, Err, List, ◌++◌, ℕ, ◌≤◌, length, take, drop, replicate}
use Rattle.std.specs.Option.{option_map_or}
use Rattle.refusals.specs.Numbers.{number}
use Rattle.refusals.specs.declared.Refusal.{Refusal}
use Rattle.calendar.specs.declared.Date.{Date}
use Rattle.time_filter.specs.declared.Events.{Events}
use Rattle.images.specs.Images.{Holidays, images}
use Rattle.ranges.specs.Words.{ranges}
use Rattle.day_listing.specs.Listed.{answer_on, cells_on}
use Rattle.framing.specs.Framing.{Parts}
use Rattle.framing.specs.Reading.{parts_of}
use Rattle.rendering.specs.Text.{lines_of, refusal_line, bad_input}

abbrev pub events_of : Parts → Events
events_of p = record { dawn = p.dawn; sunrise = p.sunrise; sunset = p.sunset; dusk = p.dusk }

abbrev pub holidays_of : Parts → Holidays
holidays_of p = images p.public p.public_unknown p.school p.school_unknown

abbrev pub asked_date : Parts → Date
asked_date p = record { year = p.year; month = p.month; day = p.day }

-- the lines of an answer's entries, or its refusal
abbrev pub answer_text : Result ℕ Refusal → List ℕ → List ℕ
answer_text (Ok count) words = lines_of (ranges (take count words))
answer_text (Err refusal) words = refusal_line (number refusal.cause) refusal.place

-- the listing of the day asked for
abbrev pub written_for : Parts → ℕ → Result ℕ Refusal
written_for p cells = answer_on p.rules (events_of p) (holidays_of p) (asked_date p) cells

abbrev pub cells_for : Parts → List ℕ → List ℕ
cells_for p o = cells_on p.rules (events_of p) (holidays_of p) (asked_date p) o

-- in a room of 129 entries
unfoldable pub day_text : Parts → List ℕ
day_text p = answer_text (written_for p 129) (cells_for p (replicate 129 0))

-- THE PROGRAM'S TEXT for an input
unfoldable pub text_of : List ℕ → List ℕ
text_of s = option_map_or day_text (parts_of s) bad_input

-- the answer r to the parts p, and o' in place of o
pub record Listed (p : Parts) (o o' : List ℕ) (r : Result ℕ Refusal) : Type 0 where
  pub answer : r ≡ written_for p (length o)
  pub cells : o' ≡ cells_for p o

-- the text from the front of o', behind it what stood there in o, and r is the text's length
pub record Responds (o text o' : List ℕ) (r : ℕ) : Type 0 where
  pub count : r ≡ length text
  pub holds : o' ≡ text ++ drop (length text) o
  pub fits : r ≤ length o'
