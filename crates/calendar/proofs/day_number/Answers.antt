-- `calendar::day_number` meets its contract: the sum is the definition's, and far below 2 ^ 32.
use Rattle.std.proofs.Common.{arith}
use Rattle.calendar.specs.Calendar.{ordinal, day_number}
use Rattle.calendar.proofs.Days.{years-high, months-high}
use Rattle.calendar.proofs.day_number.Goals as goal

pub overflow_add-result : goal.overflow_add-result
overflow_add-result c = grind (arith, years-high, months-high)

pub overflow_add-result-2 : goal.overflow_add-result-2
overflow_add-result-2 c = grind (arith, years-high, months-high)

pub returns : goal.returns
unfolding day_number ordinal
returns c = grind arith
