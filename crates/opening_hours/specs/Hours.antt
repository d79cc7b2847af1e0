-- The hours of a day, from the rules of a sheet, the four holiday images and the day's events.
use Rattle.std.specs.Prelude.{◌≡◌, Bool, cond, ◌&&◌, List, [], map, ℕ, ◌<◌, Result, Ok, leb, ltb, length, take}
use Rattle.refusals.specs.Numbers.{refused}
use Rattle.refusals.specs.declared.Cause.TheVariants.{TooManyRanges}
use Rattle.refusals.specs.declared.Refusal.{Refusal}
use Rattle.rules.specs.declared.Rule.{Rule}
use Rattle.rules.specs.declared.Sheet.{Sheet}
use Rattle.intervals.specs.Intervals.{first_day, last_day}
use Rattle.time_filter.specs.declared.Events.{Events}
use Rattle.date_filter.specs.Filter.{Holidays}
use Rattle.ranges.specs.Range.{Range}
use Rattle.ranges.specs.States.{Shown, state_at}
use Rattle.listing.specs.Listing.{Tiles, Differ}
use Rattle.reading.specs.Ruled.{Ruled}
use Rattle.reading.specs.Ranging.{Spanned, Ranged, over64, gives, range_reading, day_r}
use Rattle.rule_day.specs.Parts.{ruled_on, spanned_on}

-- a day that can show something: from 1900-01-01 up to, not including, 10000-01-01
abbrev pub can_show : ℕ → Bool
can_show n = leb first_day n && ltb n last_day

-- the rules that count
abbrev pub rules_in : Sheet → List Rule
rules_in s = take s.count s.rules

-- the rules as day n sees them, for the minute reading and for the range reading; another day sees none
abbrev pub rules_on : Holidays → Events → ℕ → Sheet → List Ruled
rules_on h e n s = cond (can_show n) (map (ruled_on h e n) (rules_in s)) []

abbrev pub spanneds_on : Holidays → Events → ℕ → Sheet → List Spanned
spanneds_on h e n s = cond (can_show n) (map (spanned_on h e n) (rules_in s)) []

-- THE DAY'S ANSWER: refused by 8 at a rule, or an evaluation
abbrev pub day_ranged : Holidays → Events → ℕ → Sheet → Ranged
day_ranged h e n s = range_reading (spanneds_on h e n s)

-- refused with the rule's number, or how many ranges the day's list has
abbrev pub answer_of : Ranged → Result ℕ Refusal
answer_of (over64 k) = refused TooManyRanges k
answer_of (gives e) = Ok (length (day_r e))

-- the day's list; where it is refused there is none
abbrev pub list_of : Ranged → List Range
list_of (over64 k) = []
list_of (gives e) = day_r e

-- THE RULE OF A DAY'S LISTING: the entries l tile the day, neighbours differ, and every minute shows f's state
pub record Runs (f : ℕ → Shown) (l : List Range) : Type 0 where
  pub tiles : Tiles 0 l 1440
  pub differ : Differ l
  pub shows_all : (t : ℕ) → t < 1440 → state_at l t ≡ f t
