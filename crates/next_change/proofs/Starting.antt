-- From the question to the first day and the number of days.
use mathlib.Core.Path.{◌≡◌}
use mathlib.Core.Bool.{true}
use mathlib.Core.List.{List}
use Prim.Native.Nat.{ℕ, ◌+◌, ◌-◌, ◌≤◌, ◌<◌}
use native.Mathlib.Omega.{arith}
use Rattle.calendar.specs.Calendar.{Valid, day_number}
use Rattle.calendar.specs.declared.Date.{Date}
use Rattle.calendar.proofs.Days.{years-mono}
use Rattle.calendar.proofs.Direct.{directly}
use Rattle.calendar.proofs.Weeks.{of-date}
use Rattle.days.specs.declared.Day.{Day}
use Rattle.days.specs.DayOf.{day_of}
use Rattle.std.specs.Prelude.{Ok, Err}
use Rattle.refusals.specs.declared.Refusal.{Refusal}
use Rattle.inputs.specs.Inputs.{inputs_of}
use Rattle.next_change.specs.Shop.{shop_day}
use Rattle.rules.specs.declared.Sheet.{Sheet}
use Rattle.rule_image.specs.Limits.{SheetOk}
use Rattle.time_filter.specs.declared.Events.{Events}
use Rattle.date_filter.specs.Filter.{Holidays, Sound}
use Rattle.changes.specs.Days.{within}
use Rattle.changes.specs.Search.{Told, next_change}
use Rattle.changes.proofs.Count.{within-fits}
use Rattle.next_change.specs.Answer.{can_ask, undated, change_of, change_answer}
use Rattle.next_change.specs.Looking.{Searchable}
use Rattle.next_change.proofs.Asking.{asks}
use Rattle.date_items.proofs.Laws.{own-number}

-- the year 0 has 366 days
pub not_first : (d : Date) → Valid d → 1 ≤ d.year → 367 ≤ day_number d
not_first d v h =
    let y : 1 + (d.year - 1) ≡ d.year = omega arith in
    let m = years-mono 1 (d.year - 1) in
    let s = of-date d v in
    omega (arith, rw y at m, directly 1, s.counted, s.low)

module _ (date : Date) (t days : ℕ) (a : can_ask date t days ≡ true) where
  -- what the question's test holds of its date and minute
  pub date-fits : Valid date × (1 ≤ date.year) × (date.year ≤ 12010)
  date-fits = let x = (asks date t days a).there in (x.valid, x.low, omega (arith, x.high))

  pub minute-fits : t < 1440
  minute-fits = (asks date t days a).minute

  module _ (d : Day) (e : d ≡ day_of (day_number date)) (k : ℕ) (w : k ≡ within days d.number) where
    number : d.number ≡ day_number date
    number = own-number d (day_number date) e

    -- the date's day is of the year 1 or later, and the days from it on end before 10000-01-01
    pub start-ready : (h : Holidays) (sheet : Sheet) → Sound h → SheetOk sheet → Searchable h sheet d k
    start-ready h sheet s l =
        let x = asks date t days a in
        let n = number in
        let g = not_first date x.there.valid x.there.low in
        record { sound = s; limits = l; day = rw (← n) at e; low = omega arith; high = within-fits days d.number k w }

    -- the search from the day is that from the date
    pub start_is : (f : ℕ → Told) → change_of (next_change f d.number t k) ≡ change_of (next_change f (day_number date) t (within days (day_number date)))
    start_is f = rw (w, number)

-- the inputs' refusal, or what the search finds
module _ (rules : List ℕ) (row : Events) (h : Holidays) (date : Date) (t days : ℕ) where
  pub inputs-refused : (f : Refusal) → Err f ≡ inputs_of rules row h → Err (undated f) ≡ change_answer rules row h date t days
  unfolding change_answer
  inputs-refused f e = rw (← e)

  pub asked-answered : (sheet : Sheet) → Ok sheet ≡ inputs_of rules row h → can_ask date t days ≡ true
      → change_of (next_change (shop_day h row sheet) (day_number date) t (within days (day_number date))) ≡ change_answer rules row h date t days
  unfolding change_answer
  asked-answered sheet e a = rw (← e, a)
