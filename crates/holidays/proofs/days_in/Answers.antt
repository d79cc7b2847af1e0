-- In the image's years the ones of the month's bits are counted; elsewhere there is nothing.
use Rattle.std.proofs.Common.{sym, ◌∙◌}
use Rattle.holiday_image.proofs.Laws.{in-years}
use Rattle.holidays.proofs.CountLaws.{count-said, count_none}
use Rattle.holidays.proofs.days_in.Goals as goal

pub returns-then-not-has_year : goal.returns-then-not-has_year
returns-then-not-has_year c = sym (count_none _ _ _ 31 (sym c.has_year.ensures ∙ c.if-not-has_year.true))

pub month_days-requires : goal.month_days-requires
month_days-requires c = in-years _ _ _ (sym c.has_year.ensures ∙ c.if-not-has_year.false) c.requires.0 c.requires.1

pub returns : goal.returns
returns c = count-said _ _ _ _ (sym c.has_year.ensures ∙ c.if-not-has_year.false) c.month_days.ensures
