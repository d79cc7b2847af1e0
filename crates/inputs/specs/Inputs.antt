-- What is asked before a day is looked at: the rules, the holiday images, the event times.
use Rattle.std.specs.Prelude.{ℕ, List, Result, Ok, Err}
use Rattle.refusals.specs.declared.Refusal.{Refusal}
use Rattle.rules.specs.declared.Sheet.{Sheet}
use Rattle.rule_image.specs.Reading.{sheet_on}
use Rattle.holidays.specs.Answers.{slots_answer}
use Rattle.time_filter.specs.Refusal.{event_refusal}
use Rattle.time_filter.specs.declared.Events.{Events}
use Rattle.date_filter.specs.Filter.{Holidays}

-- the first answer, unless one of the two refuses, the first before the second
abbrev pub and_also : {A B : Type 0} → Result A Refusal → Result B Refusal → Result A Refusal
and_also (Err f) b = Err f
and_also (Ok x) (Err f) = Err f
and_also (Ok x) (Ok y) = Ok x

-- holidays (5) before events (6)
unfoldable pub beside_rules : Events → Holidays → Result (Unit {0}) Refusal
beside_rules row h = and_also (slots_answer h) (event_refusal row)

-- rules (1 to 4) before both; the sheet where nothing is refused
unfoldable pub inputs_of : List ℕ → Events → Holidays → Result Sheet Refusal
inputs_of s row h = and_also (sheet_on s) (beside_rules row h)
