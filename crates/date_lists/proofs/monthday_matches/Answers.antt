-- Each form asks its own function.
use mathlib.Core.Path.{◌∙◌}
use native.Mathlib.Omega.{arith}
use Rattle.date_ranges.proofs.Laws.{its-year}
use Rattle.date_lists.proofs.Forms.{on-months, on-year-months, on-dates}
use Rattle.date_lists.proofs.monthday_matches.Goals as goal

pub year_months_match-requires : goal.year_months_match-requires
year_months_match-requires c =
    let ok = rw c.in-YearMonths.is at c.requires.0.form in (
      ok.0.low,
      ok.0.high,
      ok.1.low,
      ok.1.high,
      c.requires.1,
      omega (arith, c.requires.2),
      omega (arith, its-year c.args.d c.requires.1 c.requires.2 c.requires.3),
    )

pub dates_match-requires : goal.dates_match-requires
dates_match-requires c =
    let ok = rw c.in-Dates.is at c.requires.0.form in
    (ok.0, ok.1, c.requires.1, c.requires.2, c.requires.3)

pub returns-in-Months : goal.returns-in-Months
returns-in-Months c =
    c.months_match.ensures ∙ on-months c.args.item.form c.args.d c.in-Months.is

pub returns-in-YearMonths : goal.returns-in-YearMonths
returns-in-YearMonths c =
    c.year_months_match.ensures ∙ on-year-months c.args.item.form c.args.d c.in-YearMonths.is

pub returns-in-Dates : goal.returns-in-Dates
returns-in-Dates c =
    c.dates_match.ensures ∙ on-dates c.args.item.form c.args.d c.in-Dates.is
