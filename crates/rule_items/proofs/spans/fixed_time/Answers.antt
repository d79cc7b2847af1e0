-- A minute.
use mathlib.Core.Path.{refl, ap}
use native.Mathlib.Omega.{arith}
use Rattle.bits.specs.Place.{outcome, number_of, read_at}
use Rattle.bits.proofs.ReadLaws.{read_is, refused-is, left}
use Rattle.rule_items.specs.Spans.{fixed_time}
use Rattle.rule_items.proofs.ItemLaws.{fixed-time-made}
use Rattle.rule_items.proofs.spans.fixed_time.Goals as goal

pub returns-in_err-minute : goal.returns-in_err-minute
unfolding fixed_time number_of read_at
returns-in_err-minute c = left _ _ _ _ _ c.from_residual.ensures.1 (rw (refused-is _ _ c.in_err-minute.ensures.is) refl)

pub returns : goal.returns
returns c = record { is = ap outcome (fixed-time-made _ _ _ (read_is _ _ c.in_ok-minute.ensures.is)); near = omega (arith, c.in_ok-minute.ensures.near) }
