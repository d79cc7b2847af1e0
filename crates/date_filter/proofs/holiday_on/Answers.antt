-- Both images of the kind are sound.
use Rattle.date_filter.proofs.Laws.{certain_sound, unknown_sound}
use Rattle.date_filter.proofs.holiday_on.Goals as goal

pub in_image-requires : goal.in_image-requires
in_image-requires c = (rw c.certain.ensures (certain_sound _ c.requires.0 _), c.requires.1, c.requires.2)

pub in_image-requires-else-in_image : goal.in_image-requires-else-in_image
in_image-requires-else-in_image c = (rw c.unknown.ensures (unknown_sound _ c.requires.0 _), c.requires.1, c.requires.2)
