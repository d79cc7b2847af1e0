-- Three numbers in their order.
use mathlib.Core.Path.{refl, ap}
use native.Mathlib.Omega.{arith}
use Rattle.bits.specs.Place.{outcome, number_of, read_at}
use Rattle.bits.proofs.ReadLaws.{read_is, refused-is, left}
use Rattle.rule_items.specs.Years.{week_at}
use Rattle.rule_items.proofs.ItemLaws.{week-made}
use Rattle.rule_items.proofs.years.week_from.Goals as goal

pub returns-in_err-start : goal.returns-in_err-start
unfolding week_at number_of read_at
returns-in_err-start c = left _ _ _ _ _ c.from_residual.ensures.1 (rw (refused-is _ _ c.in_err-start.ensures.is) refl)

pub returns-in_err-end : goal.returns-in_err-end
unfolding week_at number_of read_at
returns-in_err-end c = left _ _ _ _ _ c.from_residual-in_err-end.ensures.1 (rw (← read_is _ _ c.in_ok-start.ensures.is, refused-is _ _ c.in_err-end.ensures.is) refl)

pub returns-in_err-step : goal.returns-in_err-step
unfolding week_at number_of read_at
returns-in_err-step c = left _ _ _ _ _ c.from_residual-in_err-step.ensures.1 (rw (← read_is _ _ c.in_ok-start.ensures.is, ← read_is _ _ c.in_ok-end.ensures.is, refused-is _ _ c.in_err-step.ensures.is) refl)

pub returns : goal.returns
returns c = record { is = ap outcome (week-made _ _ _ _ _ (read_is _ _ c.in_ok-start.ensures.is) (read_is _ _ c.in_ok-end.ensures.is) (read_is _ _ c.in_ok-step.ensures.is)); near = omega (arith, c.in_ok-start.ensures.near, c.in_ok-end.ensures.near, c.in_ok-step.ensures.near) }
