-- What the public functions on schedules answer.
use Rattle.std.specs.Prelude.{Bool, cond, List, ◌++◌, map, ℕ, ◌-◌, leb, length, take, replicate, Result, Ok}
use Rattle.ranges.specs.Range.{Range, both}
use Rattle.ranges.specs.States.{order_b}
use Rattle.ranges.specs.Insertion.{add_r}
use Rattle.ranges.specs.Build.{build_r, ends_b, spans}
use Rattle.ranges.specs.Closed.{drop_r}
use Rattle.ranges.specs.Words.{word_of, ranges}
use Rattle.schedule.specs.declared.Schedule.{Schedule}
use Rattle.refusals.specs.Numbers.{refused}
use Rattle.refusals.specs.declared.Cause.TheVariants.{NoMeaning, PastLimits, TooManyRanges, BadSchedule}
use Rattle.refusals.specs.declared.Refusal.{Refusal}

-- the ranges of a schedule
abbrev pub view : Schedule → List Range
view s = ranges (take s.len s.words)

-- the one schedule of the ranges l: the words past them are 0
abbrev pub made : List Range → Schedule
made l = record { len = length l; words = map word_of l ++ replicate (64 - length l) 0 }

-- sorted, disjoint, nonempty in each range, within 0 to 1440, of kinds 0 to 2, at most 64
abbrev pub valid : Schedule → Bool
valid s = both (leb s.len 64) (order_b 0 (view s))

abbrev pub accepted : List Range → Result Schedule Refusal
accepted l = Ok (made l)

-- 2 for the kind; 3 for more than 64 spans as given, or one that ends past 24:00
abbrev pub build_of : List ℕ → ℕ → ℕ → Result Schedule Refusal
build_of given k c =
    cond (leb k 2)
    (cond (both (leb (length given) 64) (ends_b (spans given))) (accepted (build_r k c (spans given))) (refused PastLimits 0))
    (refused NoMeaning 0)

-- 8 is judged on the finished result
abbrev pub within : List Range → Result Schedule Refusal
within l = cond (leb (length l) 64) (accepted l) (refused TooManyRanges 0)

-- 10 for the first, 10 for the second, 8
abbrev pub addition_of : Schedule → Schedule → Result Schedule Refusal
addition_of a b = cond (valid a) (cond (valid b) (within (add_r (view a) (view b))) (refused BadSchedule 1)) (refused BadSchedule 0)

abbrev pub drop_of : Schedule → Result Schedule Refusal
drop_of s = cond (valid s) (accepted (drop_r (view s))) (refused BadSchedule 0)
