-- Year, month, weekday and nth in their order.
use mathlib.Core.Path.{refl, ap}
use native.Mathlib.Omega.{arith}
use Rattle.bits.specs.Place.{outcome, number_of, signed_at, read_at}
use Rattle.bits.proofs.ReadLaws.{read_is, refused-is, left, signed_fits}
use Rattle.rule_items.specs.Dates.{nth_date}
use Rattle.rule_items.proofs.ItemLaws.{nth-made}
use Rattle.rule_items.proofs.dates.nth_date.Goals as goal

pub returns-in_err-year : goal.returns-in_err-year
unfolding nth_date number_of signed_at read_at
returns-in_err-year c = left _ _ _ _ _ c.from_residual.ensures.1 (rw (refused-is _ _ c.in_err-year.ensures.found.is) refl)

pub returns-in_err-month : goal.returns-in_err-month
unfolding nth_date number_of signed_at read_at
returns-in_err-month c = left _ _ _ _ _ c.from_residual-in_err-month.ensures.1 (rw (← read_is _ _ c.in_ok-year.ensures.found.is, refused-is _ _ c.in_err-month.ensures.is) refl)

pub returns-in_err-weekday : goal.returns-in_err-weekday
unfolding nth_date number_of signed_at read_at
returns-in_err-weekday c = left _ _ _ _ _ c.from_residual-in_err-weekday.ensures.1 (rw (← read_is _ _ c.in_ok-year.ensures.found.is, ← read_is _ _ c.in_ok-month.ensures.is, refused-is _ _ c.in_err-weekday.ensures.is) refl)

pub returns-in_err-nth : goal.returns-in_err-nth
unfolding nth_date number_of signed_at read_at
returns-in_err-nth c = left _ _ _ _ _ c.from_residual-in_err-nth.ensures.1 (rw (← read_is _ _ c.in_ok-year.ensures.found.is, ← read_is _ _ c.in_ok-month.ensures.is, ← read_is _ _ c.in_ok-weekday.ensures.is, refused-is _ _ c.in_err-nth.ensures.is) refl)

pub returns : goal.returns
returns c = record { is = ap outcome (nth-made _ _ _ _ _ _ (read_is _ _ c.in_ok-year.ensures.found.is) (read_is _ _ c.in_ok-month.ensures.is) (read_is _ _ c.in_ok-weekday.ensures.is) (read_is _ _ c.in_ok-nth.ensures.is) (signed_fits _ _ _ _ _ c.in_ok-nth.ensures (omega arith))); near = omega (arith, c.in_ok-year.ensures.found.near, c.in_ok-month.ensures.near, c.in_ok-weekday.ensures.near, c.in_ok-nth.ensures.near) }
