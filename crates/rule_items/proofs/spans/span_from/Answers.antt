-- Two times.
use mathlib.Core.Path.{refl, ap}
use native.Mathlib.Omega.{arith}
use Rattle.bits.specs.Place.{outcome}
use Rattle.bits.proofs.ReadLaws.{read_is, refused-is, left}
use Rattle.rule_items.specs.Spans.{span_at}
use Rattle.rule_items.proofs.ItemLaws.{span-made, time-stays}
use Rattle.rule_items.proofs.spans.span_from.Goals as goal

pub returns-in_err-start : goal.returns-in_err-start
unfolding span_at
returns-in_err-start c = left _ _ _ _ _ c.from_residual.ensures.1 (rw (refused-is _ _ c.in_err-start.ensures.is) (time-stays _ _ _))

pub returns-in_err-end : goal.returns-in_err-end
unfolding span_at
returns-in_err-end c = left _ _ _ _ _ c.from_residual-in_err-end.ensures.1 (rw (← read_is _ _ c.in_ok-start.ensures.is, refused-is _ _ c.in_err-end.ensures.is) refl)

pub returns : goal.returns
returns c = record { is = ap outcome (span-made _ _ _ _ (read_is _ _ c.in_ok-start.ensures.is) (read_is _ _ c.in_ok-end.ensures.is)); near = omega (arith, c.in_ok-start.ensures.near, c.in_ok-end.ensures.near) }
