-- `date_answers::count_days_in_month` meets its contract: a month that exists has its length.
use Rattle.std.proofs.Common.{arith, ◌∙◌, sym}
use Rattle.dates.proofs.There.{month-there}
use Rattle.date_answers.proofs.count_days_in_month.Goals as goal

pub month_length-requires : goal.month_length-requires
month_length-requires c = omega (arith, month-there _ _ (sym c.is_month.ensures ∙ c.if-not-is_month.false))
