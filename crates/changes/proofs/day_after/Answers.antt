-- Tomorrow lies one day less than none before the day; in the first two years it is the day of the next number's date.
use native.Mathlib.Omega.{arith}
use Rattle.changes.proofs.Tomorrow.{date-fits, day-fits}
use Rattle.changes.proofs.day_after.Goals as goal

pub day_on-requires : goal.day_on-requires
day_on-requires c = date-fits _ _ c.date_of.ensures (omega arith) (omega arith)

pub returns-else-d-ge733 : goal.returns-else-d-ge733
returns-else-d-ge733 c = day-fits _ _ c.date_of.ensures _ c.day_on.ensures
