-- Edition, reserved bits and count in their order.
use mathlib.Core.Path.{refl, ap}
use native.Mathlib.Omega.{arith}
use Rattle.bits.specs.Place.{outcome, number_of, read_at}
use Rattle.bits.proofs.ReadLaws.{read_is, refused-is, left}
use Rattle.rule_image.specs.Reading.{header_at}
use Rattle.rule_image.proofs.ReadingLaws.{header_made}
use Rattle.rule_image.proofs.sheet.header.Goals as goal

pub returns-in_err-edition-clause-found : goal.returns-in_err-edition-clause-found
unfolding header_at number_of read_at
returns-in_err-edition-clause-found c = left _ _ _ _ _ c.from_residual.ensures.1 (rw (refused-is _ _ c.in_err-edition.ensures.is) refl)

pub returns-in_err-reserved-clause-found : goal.returns-in_err-reserved-clause-found
unfolding header_at number_of read_at
returns-in_err-reserved-clause-found c = left _ _ _ _ _ c.from_residual-in_err-reserved.ensures.1 (rw (← read_is _ _ c.in_ok-edition.ensures.is, refused-is _ _ c.in_err-reserved.ensures.is) refl)

pub returns-in_err-count-clause-found : goal.returns-in_err-count-clause-found
unfolding header_at number_of read_at
returns-in_err-count-clause-found c =
    left _ _ _ _ _ c.from_residual-in_err-count.ensures.1
    (rw (← read_is _ _ c.in_ok-edition.ensures.is, ← read_is _ _ c.in_ok-reserved.ensures.is, refused-is _ _ c.in_err-count.ensures.is) refl)

pub returns-clause-found : goal.returns-clause-found
returns-clause-found c =
    let e = c.in_ok-edition.ensures in
    let v = c.in_ok-reserved.ensures in
    let n = c.in_ok-count.ensures in
    record { is = ap outcome (header_made _ _ _ _ (read_is _ _ e.is) (read_is _ _ v.is) (read_is _ _ n.is)); near = omega (arith, e.near, v.near, n.near) }
