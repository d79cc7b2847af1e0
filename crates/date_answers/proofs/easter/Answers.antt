-- `date_answers::easter` meets its contract: the formula serves the years 1 to 12000.
use Rattle.std.proofs.Common.{arith, ◌∙◌, sym}
use Rattle.dates.proofs.There.{year-there}
use Rattle.date_answers.proofs.easter.Goals as goal

pub easter-requires : goal.easter-requires
easter-requires c = omega (arith, year-there _ (sym c.in_years.ensures ∙ c.if-not-in_years.false))
