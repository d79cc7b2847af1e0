-- What a listing answers, and what the lent memory then holds.
use Rattle.std.specs.Prelude.{◌≡◌, cond, List, [], ◌++◌, map, leb, ℕ, ◌≤◌, ◌<◌, length, take, drop, Result, Ok}
use Rattle.refusals.specs.Numbers.{refused}
use Rattle.refusals.specs.declared.Cause.TheVariants.{NoRoom, BadSchedule}
use Rattle.refusals.specs.declared.Refusal.{Refusal}
use Rattle.ranges.specs.Range.{Range}
use Rattle.ranges.specs.Insertion.{ahead}
use Rattle.ranges.specs.States.{InOrder}
use Rattle.ranges.specs.Words.{ranges, word_of}
use Rattle.schedule.specs.declared.Schedule.{Schedule}
use Rattle.schedule.specs.Schedules.{view, valid}
use Rattle.listing.specs.Listing.{closed, listing}

-- the entries l from the front, and nothing behind them
abbrev pub written : List Range → List ℕ → List ℕ
written l o = map word_of l ++ drop (length l) o

-- the listing of the ranges l into so many cells: 9 with the entries needed where it is longer
abbrev pub listed_in : List Range → ℕ → Result ℕ Refusal
listed_in l cells = cond (leb (length (listing l)) cells) (Ok (length (listing l))) (refused NoRoom (length (listing l)))

abbrev pub cells_of : List Range → List ℕ → List ℕ
cells_of l o = cond (leb (length (listing l)) (length o)) (written (listing l) o) o

-- the same of a schedule: 10 where it isn't valid
abbrev pub listing_of : Schedule → ℕ → Result ℕ Refusal
listing_of s cells = cond (valid s) (listed_in (view s) cells) (refused BadSchedule 0)

abbrev pub cells_after : Schedule → List ℕ → List ℕ
cells_after s o = cond (valid s) (cells_of (view s) o) o

-- the answer r, and p in place of o
pub record Writes (l : List Range) (o p : List ℕ) (r : Result ℕ Refusal) : Type 0 where
  pub answer : r ≡ listed_in l (length o)
  pub cells : p ≡ cells_of l o

pub record Answers (s : Schedule) (o p : List ℕ) (r : Result ℕ Refusal) : Type 0 where
  pub answer : r ≡ listing_of s (length o)
  pub cells : p ≡ cells_after s o

-- r words of ys are the first n of xs, and a closed range from a to b if that is not empty
pub record Closes (xs : List ℕ) (n a b : ℕ) (ys : List ℕ) (r : ℕ) : Type 0 where
  pub size : length ys ≡ length xs
  pub few : r ≤ length ys
  pub list : ranges (take r ys) ≡ ranges (take n xs) ++ ahead (closed a b) []

-- r words of ys, one at least and hi at most, are the ranges l
pub record Entries (l : List Range) (ys : List ℕ) (hi r : ℕ) : Type 0 where
  pub some : 0 < r
  pub few : r ≤ hi
  pub list : ranges (take r ys) ≡ l

pub record ListReady (xs : List ℕ) : Type 0 where
  pub few : length xs ≤ 64
  pub order : InOrder 0 (ranges xs) 1440
