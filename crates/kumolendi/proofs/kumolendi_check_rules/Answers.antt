-- The verdict fits.
use Rattle.kumolendi.proofs.SizeLaws.{verdict-small}
use Rattle.kumolendi.proofs.kumolendi_check_rules.Goals as goal

pub pack-requires : goal.pack-requires
pack-requires c = rw c.check_sheet.ensures (verdict-small _)
