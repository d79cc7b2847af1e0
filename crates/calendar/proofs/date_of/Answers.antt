-- `calendar::date_of` meets its contract: the year and its day settle the number, the month holds that day, and a number has one date.
use Prim.Native.Nat.{ℕ, ◌+◌}
use native.Mathlib.Omega.{arith}
use Rattle.calendar.specs.Calendar.{before_year}
use Rattle.calendar.specs.Parts.{Settled}
use Rattle.calendar.proofs.Dates.{assembled}
use Rattle.calendar.proofs.date_of.Goals as goal

-- counted from the year 0, a day is its number
from_start : {n y d : ℕ} → Settled (before_year 0 + n) y d → Settled n y d
unfolding before_year
from_start s = record { counted = omega arith; low = s.low; high = s.high }

pub returns : goal.returns
returns c =
    rw (c.before_month.ensures, c.is_leap-leap.ensures)
    (assembled (from_start c.settle-at.ensures) (rw c.is_leap-leap.ensures at c.month_of-month.ensures))
