-- The two flags side by side make the slot's number.
use Rattle.std.proofs.Common.{◌∙◌}
use Rattle.holiday_image.proofs.Laws.{slot_is}
use Rattle.holiday_image.proofs.slot_of.Goals as goal

pub returns : goal.returns
returns c = c.bits_at.ensures ∙ slot_is _
