-- The loops that join a word with its neighbours.
use Rattle.std.proofs.Common.{◌≡◌, ℕ, ◌-◌, ◌≤◌, List, length, take, drop, reverse}
use Rattle.ranges.specs.Range.{Range}
use Rattle.ranges.specs.Insertion.{join_r, join_l}
use Rattle.ranges.specs.Words.{range_of, ranges}

-- joining x with all of xs is joining y with the last of them, ys
pub record Right (xs : List ℕ) (x : ℕ) (ys : List ℕ) (y : ℕ) : Type 0 where
  pub few : length ys ≤ length xs
  pub behind : drop (length xs - length ys) xs ≡ ys
  pub list : join_r (range_of x) (ranges xs) ≡ join_r (range_of y) (ranges ys)

-- and with the first of them
pub record Left (xs : List ℕ) (x : ℕ) (ys : List ℕ) (y : ℕ) : Type 0 where
  pub few : length ys ≤ length xs
  pub front : take (length ys) xs ≡ ys
  pub list : (l : List Range) → join_l (reverse (ranges xs)) (range_of x) l ≡ join_l (reverse (ranges ys)) (range_of y) l
