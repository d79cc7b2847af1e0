-- Five fields in their order.
use mathlib.Core.Path.{refl, ap}
use native.Mathlib.Omega.{arith}
use Rattle.bits.specs.Place.{outcome, number_of, signed_at, read_at}
use Rattle.bits.proofs.ReadLaws.{read_is, refused-is, left, signed_fits}
use Rattle.rule_items.specs.Weekdays.{fixed_weekdays}
use Rattle.rule_items.proofs.ItemLaws.{weekdays-made}
use Rattle.rule_items.proofs.weekdays.fixed_weekdays.Goals as goal

pub returns-in_err-start : goal.returns-in_err-start
unfolding fixed_weekdays number_of signed_at read_at
returns-in_err-start c = left _ _ _ _ _ c.from_residual.ensures.1 (rw (refused-is _ _ c.in_err-start.ensures.is) refl)

pub returns-in_err-end : goal.returns-in_err-end
unfolding fixed_weekdays number_of signed_at read_at
returns-in_err-end c = left _ _ _ _ _ c.from_residual-in_err-end.ensures.1 (rw (← read_is _ _ c.in_ok-start.ensures.is, refused-is _ _ c.in_err-end.ensures.is) refl)

pub returns-in_err-from_start : goal.returns-in_err-from_start
unfolding fixed_weekdays number_of signed_at read_at
returns-in_err-from_start c = left _ _ _ _ _ c.from_residual-in_err-from_start.ensures.1 (rw (← read_is _ _ c.in_ok-start.ensures.is, ← read_is _ _ c.in_ok-end.ensures.is, refused-is _ _ c.in_err-from_start.ensures.is) refl)

pub returns-in_err-from_end : goal.returns-in_err-from_end
unfolding fixed_weekdays number_of signed_at read_at
returns-in_err-from_end c = left _ _ _ _ _ c.from_residual-in_err-from_end.ensures.1 (rw (← read_is _ _ c.in_ok-start.ensures.is, ← read_is _ _ c.in_ok-end.ensures.is, ← read_is _ _ c.in_ok-from_start.ensures.is, refused-is _ _ c.in_err-from_end.ensures.is) refl)

pub returns-in_err-offset : goal.returns-in_err-offset
unfolding fixed_weekdays number_of signed_at read_at
returns-in_err-offset c = left _ _ _ _ _ c.from_residual-in_err-offset.ensures.1 (rw (← read_is _ _ c.in_ok-start.ensures.is, ← read_is _ _ c.in_ok-end.ensures.is, ← read_is _ _ c.in_ok-from_start.ensures.is, ← read_is _ _ c.in_ok-from_end.ensures.is, refused-is _ _ c.in_err-offset.ensures.is) refl)

pub returns : goal.returns
returns c = record { is = ap outcome (weekdays-made _ _ _ _ _ _ _ (read_is _ _ c.in_ok-start.ensures.is) (read_is _ _ c.in_ok-end.ensures.is) (read_is _ _ c.in_ok-from_start.ensures.is) (read_is _ _ c.in_ok-from_end.ensures.is) (read_is _ _ c.in_ok-offset.ensures.is) (signed_fits _ _ _ _ _ c.in_ok-offset.ensures (omega arith))); near = omega (arith, c.in_ok-start.ensures.near, c.in_ok-end.ensures.near, c.in_ok-from_start.ensures.near, c.in_ok-from_end.ensures.near, c.in_ok-offset.ensures.near) }
