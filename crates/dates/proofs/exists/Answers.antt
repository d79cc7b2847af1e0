-- `dates::exists` meets its contract: a month that exists has its length.
use Rattle.std.proofs.Common.{arith, ◌∙◌, sym}
use Rattle.dates.proofs.There.{month-there}
use Rattle.dates.proofs.exists.Goals as goal

pub month_length-length-requires : goal.month_length-length-requires
month_length-length-requires c = omega (arith, (month-there _ _ (sym c.is_month.ensures ∙ c.if-not-is_month.false)).month_high)
