-- A year and two months.
use mathlib.Core.Path.{refl, ap}
use native.Mathlib.Omega.{arith}
use Rattle.bits.specs.Place.{outcome, number_of, read_at}
use Rattle.bits.proofs.ReadLaws.{read_is, refused-is, left}
use Rattle.rule_items.specs.Dates.{year_months_form}
use Rattle.rule_items.proofs.ItemLaws.{year-months-made}
use Rattle.rule_items.proofs.dates.year_months.Goals as goal

pub returns-in_err-year : goal.returns-in_err-year
unfolding year_months_form number_of read_at
returns-in_err-year c = left _ _ _ _ _ c.from_residual.ensures.1 (rw (refused-is _ _ c.in_err-year.ensures.is) refl)

pub returns-in_err-start : goal.returns-in_err-start
unfolding year_months_form number_of read_at
returns-in_err-start c = left _ _ _ _ _ c.from_residual-in_err-start.ensures.1 (rw (← read_is _ _ c.in_ok-year.ensures.is, refused-is _ _ c.in_err-start.ensures.is) refl)

pub returns-in_err-end : goal.returns-in_err-end
unfolding year_months_form number_of read_at
returns-in_err-end c = left _ _ _ _ _ c.from_residual-in_err-end.ensures.1 (rw (← read_is _ _ c.in_ok-year.ensures.is, ← read_is _ _ c.in_ok-start.ensures.is, refused-is _ _ c.in_err-end.ensures.is) refl)

pub returns : goal.returns
returns c = record { is = ap outcome (year-months-made _ _ _ _ _ (read_is _ _ c.in_ok-year.ensures.is) (read_is _ _ c.in_ok-start.ensures.is) (read_is _ _ c.in_ok-end.ensures.is)); near = omega (arith, c.in_ok-year.ensures.near, c.in_ok-start.ensures.near, c.in_ok-end.ensures.near) }
