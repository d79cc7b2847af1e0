-- What the evaluation asks, and what it leaves in its room.
use Rattle.std.specs.Prelude.{◌≡◌, List, ℕ, ◌-◌, ◌≤◌, ◌<◌, Result, All, length, take}
use Rattle.refusals.specs.declared.Refusal.{Refusal}
use Rattle.days.specs.declared.Day.{Day}
use Rattle.days.specs.DayOf.{day_of}
use Rattle.rules.specs.declared.Rule.{Rule}
use Rattle.rules.specs.declared.Sheet.{Sheet}
use Rattle.rule_image.specs.Limits.{RuleOk, SheetOk}
use Rattle.intervals.specs.Intervals.{first_day, last_day}
use Rattle.date_filter.specs.Filter.{Holidays, Sound}
use Rattle.ranges.specs.States.{InOrder}
use Rattle.ranges.specs.Words.{ranges}
use Rattle.reading.specs.Ranging.{Ranged}
use Rattle.operators.specs.declared.Held.{Held}
use Rattle.operators.specs.Rooms.{Ready}
use Rattle.opening_hours.specs.Hours.{answer_of, list_of}

-- r is x's answer, and the first words of the room xs are its list: at most 64, in order within the day
pub record Answered (x : Ranged) (xs : List ℕ) (r : Result ℕ Refusal) : Type 0 where
  pub answer : r ≡ answer_of x
  pub few : length (list_of x) ≤ 64
  pub list : ranges (take (length (list_of x)) xs) ≡ list_of x
  pub order : InOrder 0 (list_of x) 1440

-- images as they are read, a day that can show something, and the day before it
pub record DaysReady (h : Holidays) (d y : Day) : Type 0 where
  pub sound : Sound h
  pub today : d ≡ day_of d.number
  pub yesterday : y ≡ day_of (d.number - 1)
  pub low : first_day ≤ d.number
  pub high : d.number < last_day

-- and a rule as it is read, after what p holds
pub record TurnReady (h : Holidays) (r : Rule) (d y : Day) (p : Held) (xs : List ℕ) : Type 0 where
  pub days : DaysReady h d y
  pub rule : RuleOk r
  pub before : Ready p.evaluation xs 64
  pub room : 192 ≤ length xs

-- and rules as they are read
pub record RulesReady (h : Holidays) (rs : List Rule) (d y : Day) (xs : List ℕ) : Type 0 where
  pub days : DaysReady h d y
  pub rules : All RuleOk rs
  pub room : 192 ≤ length xs

-- images and sheet as they are read, any day, and a room
pub record DayReady (h : Holidays) (s : Sheet) (d : Day) (xs : List ℕ) : Type 0 where
  pub sound : Sound h
  pub sheet : SheetOk s
  pub day : d ≡ day_of d.number
  pub room : 192 ≤ length xs
