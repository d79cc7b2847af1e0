-- By the image's length.
use mathlib.Core.Path.{sym, ap}
use Rattle.rule_image.specs.Reading.{stand}
use Rattle.rule_image.proofs.ReadingLaws.{end_more, end-here}
use Rattle.rule_image.proofs.fill.nothing_after.Goals as goal

pub returns-then-at-image : goal.returns-then-at-image
returns-then-at-image c = ap stand (sym (end_more _ _ c.if-at-image.true))

pub returns : goal.returns
returns c = ap stand (sym (end-here _ _ c.if-at-image.false))
