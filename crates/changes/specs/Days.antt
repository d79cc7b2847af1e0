-- Over how many days the next change is sought.
use Rattle.std.specs.Prelude.{cond, ℕ, ◌-◌, min, eqb}
use Rattle.intervals.specs.Intervals.{last_day}

-- 0 days means 366
unfoldable pub asked : ℕ → ℕ
asked days = cond (eqb days 0) 366 days

-- the days asked for from day n on, as far as they lie before 10000-01-01
unfoldable pub within : ℕ → ℕ → ℕ
within days n = min (asked days) (last_day - n)
