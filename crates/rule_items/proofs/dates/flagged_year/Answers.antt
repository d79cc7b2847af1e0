-- The flag times the limits gives the limits with and without a year.
use mathlib.Core.Path.{refl}
use Rattle.bits.specs.Place.{number_of, read_at}
use Rattle.bits.proofs.ReadLaws.{read_is, refused-is, left, further}
use Rattle.rule_items.specs.Dates.{flagged_year}
use native.Mathlib.Omega.{arith}
use Rattle.rule_items.proofs.dates.flagged_year.Goals as goal

pub returns-in_err-flag-clause-found : goal.returns-in_err-flag-clause-found
unfolding flagged_year number_of read_at
returns-in_err-flag-clause-found c = left _ _ _ _ _ c.from_residual.ensures.1 (rw (refused-is _ _ c.in_err-flag.ensures.is) refl)

pub returns-clause-found : goal.returns-clause-found
unfolding flagged_year
returns-clause-found c =
    let n = c.number-2.ensures in
    further _ _ _ _ _ _ _ (record { is = n.is; near = n.near }) (rw (← read_is _ _ c.in_ok-flag.ensures.is) refl) (omega (arith, c.in_ok-flag.ensures.near))
