-- The rules' numbers of the causes, and a refusal as an answer.
use Rattle.std.specs.Prelude.{ℕ, Result, Err}
use Rattle.refusals.specs.declared.Cause.{Cause}
use Rattle.refusals.specs.declared.Cause.TheVariants.{PastEnd, NoMeaning, PastLimits, NotEnded, BadHolidays, BadEvent, NoDate, TooManyRanges, NoRoom, BadSchedule}
use Rattle.refusals.specs.declared.Refusal.{Refusal}

abbrev pub number : Cause → ℕ
number PastEnd = 1
number NoMeaning = 2
number PastLimits = 3
number NotEnded = 4
number BadHolidays = 5
number BadEvent = 6
number NoDate = 7
number TooManyRanges = 8
number NoRoom = 9
number BadSchedule = 10

-- the answer of one who refuses
abbrev pub refused : {A : Type 0} → Cause → ℕ → Result A Refusal
refused c p = Err (record { cause = c; place = p })
