-- A step of the code.
-- Assumes nothing.
use Rattle.std.specs.Prelude.{ℕ, ◌+◌, ◌*◌, cond, ltb}

-- the month that a range of months with a year ends in, counted from the year 0
unfoldable pub last_month : ℕ → ℕ → ℕ → ℕ
last_month year start end = cond (ltb end start) (year * 12 + end + 12) (year * 12 + end)
