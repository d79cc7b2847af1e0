-- Fill bits, then the end.
use mathlib.Core.Path.{refl}
use Rattle.rule_image.specs.Reading.{ended, filled}
use Rattle.rule_image.proofs.ReadingLaws.{stood, fallen, answered}
use Rattle.rule_image.proofs.fill.filled.Goals as goal

pub returns-in_err-end : goal.returns-in_err-end
unfolding filled ended
returns-in_err-end c = answered _ _ _ c.from_residual.ensures.1 (rw (fallen _ _ c.in_err-end.ensures) refl)

pub returns : goal.returns
unfolding filled
returns c = rw (stood _ _ c.in_ok-end.ensures) c.nothing_after.ensures
