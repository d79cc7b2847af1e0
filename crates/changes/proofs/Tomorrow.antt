-- The day of a number, by way of its date.
use mathlib.Core.Path.{◌≡◌, ap, ◌∙◌}
use Prim.Native.Nat.{ℕ, ◌≤◌, ◌<◌}
use native.Mathlib.Omega.{arith}
use Rattle.calendar.specs.Calendar.{Valid, day_number, date_of}
use Rattle.calendar.specs.declared.Date.{Date}
use Rattle.calendar.proofs.Dates.{date_of-valid, number-date_of}
use Rattle.calendar.proofs.Weeks.{settled}
use Rattle.days.specs.DayOf.{day_of}
use Rattle.days.specs.declared.Day.{Day}
use Rattle.days.proofs.Laws.{year-from, year-to}

module _ (n : ℕ) (d : Date) (e : d ≡ date_of n) where
  -- a number from 367 on is a date's, from the year 1 on
  pub date-fits : 367 ≤ n → n < 4000000 → Valid d × (1 ≤ d.year) × (d.year ≤ 12010)
  date-fits h k =
      let s = settled n (omega arith) in
      rw e (date_of-valid n (omega arith), year-from {k = 0} s (omega arith), omega (arith, year-to {k = 12000} s (omega arith)))

  -- and its date's day is the number's
  pub day-fits : (r : Day) → r ≡ day_of (day_number d) → r ≡ day_of n
  day-fits r q = q ∙ ap (λ (x : Date). day_of (day_number x)) e ∙ ap day_of (number-date_of n)
