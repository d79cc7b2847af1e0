-- What the day's listing answers fits.
use Rattle.kumolendi.proofs.DaySizes.{answer-small}
use Rattle.kumolendi.proofs.kumolendi_list_day.Goals as goal

pub pack-requires : goal.pack-requires
pack-requires c = rw c.list_day.ensures.answer (answer-small _ _ _ _ _)
