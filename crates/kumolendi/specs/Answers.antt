-- What the exports answer, and what the lent memory then holds: r is the answer, and p stands in place of o.
use Rattle.std.specs.Prelude.{◌≡◌, List, ℕ, ◌<◌, Result, Err, MatchResult, length}
use Rattle.refusals.specs.declared.Refusal.{Refusal}
use Rattle.next_change.specs.declared.Change.{Change}
use Rattle.next_change.specs.declared.Refused.{Refused}
use Rattle.calendar.specs.declared.Date.{Date}
use Rattle.time_filter.specs.declared.Events.{Events}
use Rattle.date_filter.specs.Filter.{Holidays}
use Rattle.schedule.specs.declared.Schedule.{Schedule}
use Rattle.listing.specs.Writing.{listing_of, cells_after}
use Rattle.word_schedules.specs.Stored.{stored_in, cells_in}
use Rattle.day_listing.specs.Listed.{answer_on, cells_on}
use Rattle.kumolendi.specs.Packed.{packed}

-- a value and a place that fit the lower half
pub record Small (r : Result ℕ Refusal) : Type 0 where
  pub fits : MatchResult r (λ n. n < 4294967296) (λ f. f.place < 4294967296)

pub record SmallChange (r : Result Change Refused) : Type 0 where
  pub place : (f : Refused) → r ≡ Err f → f.refusal.place < 4294967296

pub record Stored (a : Result Schedule Refusal) (o p : List ℕ) (r : ℕ) : Type 0 where
  pub answer : r ≡ packed (stored_in a (length o))
  pub cells : p ≡ cells_in a o

pub record Listed (s : Schedule) (o p : List ℕ) (r : ℕ) : Type 0 where
  pub answer : r ≡ packed (listing_of s (length o))
  pub cells : p ≡ cells_after s o

pub record DayListed (rules : List ℕ) (row : Events) (h : Holidays) (date : Date) (o p : List ℕ) (r : ℕ) : Type 0 where
  pub answer : r ≡ packed (answer_on rules row h date (length o))
  pub cells : p ≡ cells_on rules row h date o
