-- Answers as one number: the refusal's number in the upper half, 0 where nothing is refused; in the lower half its place, or the value.
use Rattle.std.specs.Prelude.{ℕ, ◌+◌, ◌*◌, Option, Some, None, Result, Ok, Err}
use Rattle.refusals.specs.Numbers.{number}
use Rattle.refusals.specs.declared.Refusal.{Refusal}
use Rattle.calendar.specs.declared.Date.{Date}
use Rattle.next_change.specs.declared.Change.{Change}
use Rattle.next_change.specs.declared.Moment.{Moment}
use Rattle.next_change.specs.declared.Refused.{Refused}
use Rattle.kumolendi.specs.declared.KumolendiChange.{KumolendiChange}

-- of a value that means a number
abbrev pub packed_as : {A : Type 0} → (A → ℕ) → Result A Refusal → ℕ
packed_as f (Ok x) = f x
packed_as f (Err r) = number r.cause * 4294967296 + r.place

-- of a number: how many words were written
abbrev pub packed : Result ℕ Refusal → ℕ
packed r = packed_as (λ k. k) r

-- the number of rules
abbrev pub packed_rules : Result ℕ Refusal → ℕ
packed_rules r = packed r

abbrev pub packed_check : Result (Unit {0}) Refusal → ℕ
packed_check r = packed_as (λ _. 0) r

-- the count
abbrev pub packed_count : Result ℕ Refusal → ℕ
packed_count r = packed r

-- a date as one number
abbrev pub date_number : Date → ℕ
date_number d = d.year * 512 + d.month * 32 + d.day

-- the date; 0 where there is none
abbrev pub date_or_none : Option Date → ℕ
date_or_none None = 0
date_or_none (Some d) = date_number d

abbrev pub packed_first : Result (Option Date) Refusal → ℕ
packed_first r = packed_as date_or_none r

-- a date's fields, zeros where there is none
abbrev pub dated : Option Date → KumolendiChange
dated None = record { refusal = 0; place = 0; year = 0; month = 0; day = 0; minute = 0; examined = 0 }
dated (Some d) = record { refusal = 0; place = 0; year = d.year; month = d.month; day = d.day; minute = 0; examined = 0 }

-- the moment of a change and the days examined
abbrev pub handed : Option Moment → ℕ → KumolendiChange
handed None k = record { refusal = 0; place = 0; year = 0; month = 0; day = 0; minute = 0; examined = k }
handed (Some m) k = record { refusal = 0; place = 0; year = m.date.year; month = m.date.month; day = m.date.day; minute = m.minute; examined = k }

-- a change, field by field; a refusal's number and place, and the refused day's date
abbrev pub handed_over : Result Change Refused → KumolendiChange
handed_over (Ok c) = handed c.at c.examined
handed_over (Err r) =
    record {
      refusal = number r.refusal.cause;
      place = r.refusal.place;
      year = (dated r.date).year;
      month = (dated r.date).month;
      day = (dated r.date).day;
      minute = 0;
      examined = 0;
    }
