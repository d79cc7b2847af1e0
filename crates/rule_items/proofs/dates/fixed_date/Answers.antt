-- Year, month and day in their order.
use mathlib.Core.Path.{refl, ap}
use native.Mathlib.Omega.{arith}
use Rattle.bits.specs.Place.{outcome, number_of, read_at}
use Rattle.bits.proofs.ReadLaws.{read_is, refused-is, left}
use Rattle.rule_items.specs.Dates.{fixed_date}
use Rattle.rule_items.proofs.ItemLaws.{fixed_made}
use Rattle.rule_items.proofs.dates.fixed_date.Goals as goal

pub returns-in_err-year : goal.returns-in_err-year
unfolding fixed_date number_of read_at
returns-in_err-year c = left _ _ _ _ _ c.from_residual.ensures.1 (rw (refused-is _ _ c.in_err-year.ensures.found.is) refl)

pub returns-in_err-month : goal.returns-in_err-month
unfolding fixed_date number_of read_at
returns-in_err-month c = left _ _ _ _ _ c.from_residual-in_err-month.ensures.1 (rw (← read_is _ _ c.in_ok-year.ensures.found.is, refused-is _ _ c.in_err-month.ensures.is) refl)

pub returns-in_err-day : goal.returns-in_err-day
unfolding fixed_date number_of read_at
returns-in_err-day c = left _ _ _ _ _ c.from_residual-in_err-day.ensures.1 (rw (← read_is _ _ c.in_ok-year.ensures.found.is, ← read_is _ _ c.in_ok-month.ensures.is, refused-is _ _ c.in_err-day.ensures.is) refl)

pub returns : goal.returns
returns c = record { is = ap outcome (fixed_made _ _ _ _ _ (read_is _ _ c.in_ok-year.ensures.found.is) (read_is _ _ c.in_ok-month.ensures.is) (read_is _ _ c.in_ok-day.ensures.is)); near = omega (arith, c.in_ok-year.ensures.found.near, c.in_ok-month.ensures.near, c.in_ok-day.ensures.near) }
