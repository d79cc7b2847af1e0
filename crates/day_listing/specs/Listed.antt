-- The listing of a day, from the inputs as they are offered: what is answered, and what the lent memory then holds.
use Rattle.std.specs.Prelude.{◌≡◌, cond, List, ℕ, Result, Ok, Err, length}
use Rattle.refusals.specs.Numbers.{refused}
use Rattle.refusals.specs.declared.Cause.TheVariants.{NoDate, TooManyRanges}
use Rattle.refusals.specs.declared.Refusal.{Refusal}
use Rattle.calendar.specs.Calendar.{day_number}
use Rattle.calendar.specs.declared.Date.{Date}
use Rattle.days.specs.DayOf.{day_of}
use Rattle.days.specs.declared.Day.{Day}
use Rattle.dates.specs.Exists.{is_date}
use Rattle.rules.specs.declared.Sheet.{Sheet}
use Rattle.rule_image.specs.Limits.{SheetOk}
use Rattle.time_filter.specs.declared.Events.{Events}
use Rattle.date_filter.specs.Filter.{Holidays, Sound}
use Rattle.reading.specs.Ranging.{Ranged, over64, gives, day_r}
use Rattle.opening_hours.specs.Hours.{day_ranged}
use Rattle.listing.specs.Writing.{listed_in, cells_of}
use Rattle.inputs.specs.Inputs.{inputs_of}

-- a day's answer into so many cells: 8 and the rule, else the listing of its ranges
abbrev pub day_listed : Ranged → ℕ → Result ℕ Refusal
day_listed (over64 k) cells = refused TooManyRanges k
day_listed (gives e) cells = listed_in (day_r e) cells

abbrev pub day_cells : Ranged → List ℕ → List ℕ
day_cells (over64 k) o = o
day_cells (gives e) o = cells_of (day_r e) o

-- from the inputs' sheet, or their refusal: 7 for the date, else the day's answer
abbrev pub date_listed : Result Sheet Refusal → Events → Holidays → Date → ℕ → Result ℕ Refusal
date_listed (Err f) row h date cells = Err f
date_listed (Ok sheet) row h date cells =
    cond (is_date date) (day_listed (day_ranged h row (day_number date) sheet) cells) (refused NoDate 0)

abbrev pub date_cells : Result Sheet Refusal → Events → Holidays → Date → List ℕ → List ℕ
date_cells (Err f) row h date o = o
date_cells (Ok sheet) row h date o = cond (is_date date) (day_cells (day_ranged h row (day_number date) sheet) o) o

-- THE ANSWER: the refusal of the inputs (1 to 6), else 7 for the date, else the day's 8, else its listing or 9
unfoldable pub answer_on : List ℕ → Events → Holidays → Date → ℕ → Result ℕ Refusal
answer_on rules row h date cells = date_listed (inputs_of rules row h) row h date cells

-- a refusal writes nothing
unfoldable pub cells_on : List ℕ → Events → Holidays → Date → List ℕ → List ℕ
cells_on rules row h date o = date_cells (inputs_of rules row h) row h date o

-- the answer r, and p in place of o: of a day, and of a question
pub record DayLists (x : Ranged) (o p : List ℕ) (r : Result ℕ Refusal) : Type 0 where
  pub answer : r ≡ day_listed x (length o)
  pub cells : p ≡ day_cells x o

pub record Lists (rules : List ℕ) (row : Events) (h : Holidays) (date : Date) (o p : List ℕ) (r : Result ℕ Refusal) : Type 0 where
  pub answer : r ≡ answer_on rules row h date (length o)
  pub cells : p ≡ cells_on rules row h date o

-- sound images, a sheet within its limits, and a day
pub record Ready (h : Holidays) (s : Sheet) (d : Day) : Type 0 where
  pub images : Sound h
  pub limits : SheetOk s
  pub day : d ≡ day_of d.number
