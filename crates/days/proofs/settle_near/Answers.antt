-- `days::settle_near` meets its contract: a day, counted on from the start of the year that lies two before the later day's.
use Rattle.std.proofs.Common.{arith, rules}
use Rattle.calendar.proofs.Days.{year-low, year-high}
use Rattle.days.proofs.Laws.{two_back}
use Rattle.days.proofs.settle_near.Goals as goal

pub overflow_add-first : goal.overflow_add-first
overflow_add-first c = omega (arith, year-high)

pub overflow_add-first-2 : goal.overflow_add-first-2
overflow_add-first-2 c = omega (arith, year-high)

pub overflow_add-first-3 : goal.overflow_add-first-3
overflow_add-first-3 c = omega (arith, year-high)

pub overflow_sub-first : goal.overflow_sub-first
overflow_sub-first c = omega (arith, year-low)

pub settle-requires : goal.settle-requires
settle-requires c = omega (arith, year-low, year-high)

pub returns : goal.returns
returns c =
    record {
      counted = omega (arith, two_back c.args.day.year (search rules), year-low);
      low = c.settle.ensures.low;
      high = c.settle.ensures.high;
    }
