-- A date, then its offset.
use mathlib.Core.Path.{refl, ap}
use native.Mathlib.Omega.{arith}
use Rattle.bits.specs.Place.{outcome, signed_at, read_at}
use Rattle.bits.proofs.ReadLaws.{read_is, refused-is, left, signed_fits}
use Rattle.rule_items.specs.Dates.{date_offset}
use Rattle.rule_items.proofs.ItemLaws.{offset_made}
use Rattle.rule_items.proofs.dates.date_offset_from.Goals as goal

pub returns-in_err-date : goal.returns-in_err-date
unfolding date_offset signed_at read_at
returns-in_err-date c = left _ _ _ _ _ c.from_residual.ensures.1 (rw (refused-is _ _ c.in_err-date.ensures.is) refl)

pub returns-in_err-offset : goal.returns-in_err-offset
unfolding date_offset signed_at read_at
returns-in_err-offset c = left _ _ _ _ _ c.from_residual-in_err-offset.ensures.1 (rw (← read_is _ _ c.in_ok-date.ensures.is, refused-is _ _ c.in_err-offset.ensures.is) refl)

pub returns : goal.returns
returns c = record { is = ap outcome (offset_made _ _ c.args.edition _ _ (read_is _ _ c.in_ok-date.ensures.is) (read_is _ _ c.in_ok-offset.ensures.is) (signed_fits _ _ _ _ _ c.in_ok-offset.ensures (omega arith))); near = omega (arith, c.in_ok-date.ensures.near, c.in_ok-offset.ensures.near) }
