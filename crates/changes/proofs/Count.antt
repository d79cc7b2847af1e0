-- How many days there are to look at.
use mathlib.Core.Path.{◌≡◌, refl}
use Prim.Native.Nat.{ℕ, ◌-◌, ◌≤◌, min}
use native.Mathlib.Omega.{arith}
use Rattle.intervals.specs.Intervals.{last_day}
use Rattle.changes.specs.Days.{asked, within}

-- the lower of the days asked for and the days left
pub within-is : (days n : ℕ) → min (asked days) (last_day - n) ≡ within days n
unfolding within
within-is days n = refl

-- the days lie before 10000-01-01
pub within-fits : (days n k : ℕ) → k ≡ within days n → k ≤ last_day - n
within-fits days n k e = let w = within-is days n in omega arith

-- and from there on none is left
pub none_left : (days n : ℕ) → last_day ≤ n → within days n ≡ 0
none_left days n h = let w = within-is days n in omega arith
