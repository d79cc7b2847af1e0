-- The loop that makes neighbours of the same state one, in their own room.
use mathlib.Core.Path.{◌≡◌}
use mathlib.Core.List.{List, ◌++◌}
use Prim.Native.Nat.{ℕ, ◌≤◌, ◌<◌}
use lib.ListN.{length, take, drop, get_or}
use Rattle.ranges.specs.Words.{range_of, ranges}
use Rattle.listing.specs.Listing.{merge_l, merged_l}

pub record Merge (xs : List ℕ) (n : ℕ) (ys : List ℕ) (cur m i : ℕ) : Type 0 where
  pub long : n ≤ length xs
  pub size : length ys ≡ length xs
  pub upto : i ≤ n
  pub less : m < i
  pub same : (q : ℕ) → i ≤ q → get_or ys q 0 ≡ get_or xs q 0
  pub sum : ranges (take m ys) ++ merge_l (range_of cur) (ranges (drop i (take n xs))) ≡ merged_l (ranges (take n xs))
