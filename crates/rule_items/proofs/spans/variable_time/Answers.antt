-- An event and its offset.
use mathlib.Core.Path.{refl, ap}
use native.Mathlib.Omega.{arith}
use Rattle.bits.specs.Place.{outcome, number_of, signed_at, read_at}
use Rattle.bits.proofs.ReadLaws.{read_is, refused-is, left, signed_fits}
use Rattle.rule_items.specs.Spans.{variable_time}
use Rattle.rule_items.proofs.ItemLaws.{variable-time-made}
use Rattle.rule_items.proofs.spans.variable_time.Goals as goal

pub returns-in_err-event : goal.returns-in_err-event
unfolding variable_time number_of signed_at read_at
returns-in_err-event c = left _ _ _ _ _ c.from_residual.ensures.1 (rw (refused-is _ _ c.in_err-event.ensures.is) refl)

pub returns-in_err-offset : goal.returns-in_err-offset
unfolding variable_time number_of signed_at read_at
returns-in_err-offset c = left _ _ _ _ _ c.from_residual-in_err-offset.ensures.1 (rw (← read_is _ _ c.in_ok-event.ensures.is, refused-is _ _ c.in_err-offset.ensures.is) refl)

pub returns : goal.returns
returns c = record { is = ap outcome (variable-time-made _ _ _ _ (read_is _ _ c.in_ok-event.ensures.is) (read_is _ _ c.in_ok-offset.ensures.is) (signed_fits _ _ _ _ _ c.in_ok-offset.ensures (omega arith))); near = omega (arith, c.in_ok-event.ensures.near, c.in_ok-offset.ensures.near) }
