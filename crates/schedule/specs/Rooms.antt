-- What the functions that work in a lent room ask and leave.
use Rattle.std.specs.Prelude.{◌≡◌, true, List, ℕ, ◌+◌, ◌*◌, ◌≤◌, ◌<◌, length, take}
use Rattle.ranges.specs.Range.{Range}
use Rattle.ranges.specs.States.{InOrder}
use Rattle.ranges.specs.Build.{ends_b, spans}
use Rattle.ranges.specs.Words.{ranges}

-- r words of ys, at most hi, are the ranges l
pub record Leaves (l : List Range) (ys : List ℕ) (hi r : ℕ) : Type 0 where
  pub few : r ≤ hi
  pub list : ranges (take r ys) ≡ l

-- each range that goes in may make two more
pub record AddReady (xs : List ℕ) (n : ℕ) (bs : List ℕ) : Type 0 where
  pub room : n + 2 * length bs ≤ length xs
  pub order : InOrder 0 (ranges (take n xs)) 1440
  pub order' : InOrder 0 (ranges bs) 1440

pub record BuildReady (gs : List ℕ) (kind : ℕ) (xs : List ℕ) : Type 0 where
  pub room : length gs < length xs
  pub kinds : kind ≤ 2
  pub ends : ends_b (spans gs) ≡ true
