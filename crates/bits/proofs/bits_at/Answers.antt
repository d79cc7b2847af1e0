-- A window where eight bytes are left, else the field's own bytes.
use Rattle.bits.proofs.BitsLaws.{from-window}
use Rattle.bits.proofs.bits_at.Goals as goal

pub returns-then-first-image : goal.returns-then-first-image
returns-then-first-image c = from-window _ _ _ _ _ c.requires.1 c.window.ensures c.cut.ensures
