-- What is answered to the question for a date and its day. A date that does not exist is refused by 7, place 0.
-- Assumes nothing.
use Rattle.std.specs.Prelude.{Bool, cond, Result, Ok}
use Rattle.refusals.specs.Numbers.{refused}
use Rattle.refusals.specs.declared.Cause.TheVariants.{NoDate}
use Rattle.refusals.specs.declared.Refusal.{Refusal}
use Rattle.calendar.specs.Calendar.{day_number}
use Rattle.calendar.specs.declared.Date.{Date}
use Rattle.days.specs.DayOf.{day_of}
use Rattle.days.specs.declared.Day.{Day}
use Rattle.dates.specs.Exists.{is_date}

-- an answer where there is what is asked about
abbrev pub answered : {A : Type 0} → Bool → A → Result A Refusal
answered there x = cond there (Ok x) (refused NoDate 0)

-- the date itself
unfoldable pub asked : Date → Result Date Refusal
asked d = answered (is_date d) d

-- all that the filters ask of a date's day
unfoldable pub day_answer : Date → Result Day Refusal
day_answer d = answered (is_date d) (day_of (day_number d))
