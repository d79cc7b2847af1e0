-- A refusal's place fits.
use Rattle.kumolendi.proofs.SizeLaws.{count-small}
use Rattle.kumolendi.proofs.kumolendi_holidays_in_month.Goals as goal

pub pack-requires-in-Err : goal.pack-requires-in-Err
pack-requires-in-Err c = count-small c.args.image.now c.args.year c.args.month c.in-Err.refusal c.in-Err.ensures
