-- A year alone.
use mathlib.Core.Path.{refl, ap}
use native.Mathlib.Omega.{arith}
use Rattle.bits.specs.Place.{outcome}
use Rattle.bits.proofs.ReadLaws.{read_is, refused-is, left}
use Rattle.rule_items.specs.Dates.{easter_date}
use Rattle.rule_items.proofs.ItemLaws.{easter-made}
use Rattle.rule_items.proofs.dates.easter_date.Goals as goal

pub returns-in_err-year : goal.returns-in_err-year
unfolding easter_date
returns-in_err-year c = left _ _ _ _ _ c.from_residual.ensures.1 (rw (refused-is _ _ c.in_err-year.ensures.found.is) refl)

pub returns : goal.returns
returns c = record { is = ap outcome (easter-made _ _ _ (read_is _ _ c.in_ok-year.ensures.found.is)); near = omega (arith, c.in_ok-year.ensures.found.near) }
