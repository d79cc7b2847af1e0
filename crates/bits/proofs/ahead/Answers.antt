-- A window, moved up by the bits in front of the place.
use Rattle.bits.proofs.AheadLaws.{moved_up}
use Rattle.bits.proofs.ahead.Goals as goal

pub returns : goal.returns
returns c = moved_up _ _ _ c.window.ensures
