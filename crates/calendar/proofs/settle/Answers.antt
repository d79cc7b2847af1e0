-- `calendar::settle` meets its contract: the days since the start of the year's cycle are whole cycles and a day of one.
use Rattle.std.proofs.Common.{◌+◌, ◌-◌, ◌%◌, arith}
use Rattle.calendar.proofs.Days.{years-high}
use Rattle.calendar.proofs.Direct.{counted-on}
use Rattle.calendar.proofs.settle.Goals as goal

pub overflow_add-passed : goal.overflow_add-passed
overflow_add-passed c = omega (arith, years-high (c.args.year % 400))

pub returns : goal.returns
returns c =
    counted-on c.args.year c.args.rest (c.before_year.result + c.args.rest - 1) _ _
    (omega arith)
    c.in_cycle-at.ensures
