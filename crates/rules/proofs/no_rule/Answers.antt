-- Each list is filled with the item that its function gives.
use Rattle.rules.proofs.no_rule.Goals as goal

pub returns : goal.returns
returns c =
    rw (c.no_span-span.ensures, c.no_weekday-weekday.ensures, c.no_week-week.ensures, c.no_monthday-monthday.ensures, c.no_year-year.ensures)
