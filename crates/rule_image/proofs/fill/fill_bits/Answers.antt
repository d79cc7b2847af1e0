use mathlib.Core.Path.{◌≡◌, refl, ap, sym}
use native.Mathlib.Omega.{arith}
use Rattle.rule_image.specs.Reading.{fill_bits, stand}
use Rattle.rule_image.proofs.ReadingLaws.{fill_refused, fill-more, answered}
use Rattle.rule_image.proofs.fill.fill_bits.Goals as goal

pub loop-init : goal.loop-init
unfolding fill_bits
loop-init c = record { place = refl; near = omega arith }

pub returns-in_err-end : goal.returns-in_err-end
returns-in_err-end c = answered _ _ _ c.from_residual.ensures.1 (fill_refused _ _ _ _ _ _ c.loop.invariant.place c.in_err-end.ensures.is c.loop-test.true)

pub loop-preserved : goal.loop-preserved
loop-preserved c = record { place = fill-more _ _ _ _ _ c.loop.invariant.place c.in_ok-end.ensures.is; near = omega (arith, c.loop.invariant.near, c.in_ok-end.ensures.near) }

pub returns : goal.returns
returns c = let e : c.loop.counter ≡ c.args.count = omega arith in rw (← e) (ap stand (sym c.loop.invariant.place))
