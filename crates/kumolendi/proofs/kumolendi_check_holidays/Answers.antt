-- A refusal's place fits.
use Rattle.kumolendi.proofs.SizeLaws.{check-small}
use Rattle.kumolendi.proofs.kumolendi_check_holidays.Goals as goal

pub pack-requires-in-Err : goal.pack-requires-in-Err
pack-requires-in-Err c = check-small c.args.image.now c.in-Err.refusal c.in-Err.ensures
