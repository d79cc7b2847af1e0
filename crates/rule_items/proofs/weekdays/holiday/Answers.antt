-- A flag and an offset.
use mathlib.Core.Path.{refl, ap}
use native.Mathlib.Omega.{arith}
use Rattle.bits.specs.Place.{outcome, number_of, signed_at, read_at}
use Rattle.bits.proofs.ReadLaws.{read_is, refused-is, left, signed_fits}
use Rattle.rule_items.specs.Weekdays.{holiday_form}
use Rattle.rule_items.proofs.ItemLaws.{holiday-made}
use Rattle.rule_items.proofs.weekdays.holiday.Goals as goal

pub returns-in_err-school : goal.returns-in_err-school
unfolding holiday_form number_of signed_at read_at
returns-in_err-school c = left _ _ _ _ _ c.from_residual.ensures.1 (rw (refused-is _ _ c.in_err-school.ensures.is) refl)

pub returns-in_err-offset : goal.returns-in_err-offset
unfolding holiday_form number_of signed_at read_at
returns-in_err-offset c = left _ _ _ _ _ c.from_residual-in_err-offset.ensures.1 (rw (← read_is _ _ c.in_ok-school.ensures.is, refused-is _ _ c.in_err-offset.ensures.is) refl)

pub returns : goal.returns
returns c = record { is = ap outcome (holiday-made _ _ _ _ (read_is _ _ c.in_ok-school.ensures.is) (read_is _ _ c.in_ok-offset.ensures.is) (signed_fits _ _ _ _ _ c.in_ok-offset.ensures (omega arith))); near = omega (arith, c.in_ok-school.ensures.near, c.in_ok-offset.ensures.near) }
