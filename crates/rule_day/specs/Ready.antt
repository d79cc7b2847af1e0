-- What the functions ask, and what a rule shows in ranges, day by day.
use Rattle.std.specs.Prelude.{◌≡◌, List, ℕ, ◌-◌, ◌≤◌, ◌<◌, length}
use Rattle.days.specs.declared.Day.{Day}
use Rattle.days.specs.DayOf.{day_of}
use Rattle.rules.specs.declared.Rule.{Rule}
use Rattle.rule_image.specs.Limits.{RuleOk}
use Rattle.ranges.specs.Range.{Range}
use Rattle.ranges.specs.Build.{spans, build_r}
use Rattle.time_filter.specs.declared.Events.{Events}
use Rattle.time_filter.specs.Cuts.{cut_all}
use Rattle.date_filter.specs.Filter.{Holidays, Sound, Asked, rule_matches}
use Rattle.reading.specs.Operators.{Turn, when}
use Rattle.rule_day.specs.Parts.{kind_on, spans_of}

-- the ranges of a rule that matches day d, on the day that begins `shift` minutes after it
abbrev pub shown_on : Holidays → Events → Day → ℕ → Rule → List Range
shown_on h e d shift r = build_r (kind_on h r d) r.comment (spans (cut_all e d shift (spans_of r)))

-- whether the rule matches day d, and those ranges if it does
abbrev pub part_on : Holidays → Events → Day → ℕ → Rule → Turn (List Range)
part_on h e d shift r = record { matched = rule_matches h r d; eval = when (rule_matches h r d) (shown_on h e d shift r) }

-- images, rule and day as the date filter asks
pub record DayReady (h : Holidays) (r : Rule) (d : Day) : Type 0 where
  pub asked : Asked h d
  pub rule : RuleOk r

-- and a room for the ranges of that day
pub record PartReady (h : Holidays) (r : Rule) (d : Day) (xs : List ℕ) : Type 0 where
  pub day : DayReady h r d
  pub room : 8 < length xs

-- images and rule as they are read, an asked day from 1900-01-01 on, the day before it, and a room for the ranges of both
pub record RuleReady (h : Holidays) (r : Rule) (d y : Day) (xs : List ℕ) : Type 0 where
  pub sound : Sound h
  pub rule : RuleOk r
  pub today : d ≡ day_of d.number
  pub yesterday : y ≡ day_of (d.number - 1)
  pub low : 693962 ≤ d.number
  pub high : d.number ≤ 3652425
  pub room : 32 ≤ length xs
