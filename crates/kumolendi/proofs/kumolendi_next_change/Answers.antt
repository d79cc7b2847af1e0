-- The place of what is found fits.
use Rattle.kumolendi.proofs.ChangeSizes.{change-small}
use Rattle.kumolendi.proofs.kumolendi_next_change.Goals as goal

pub hand_over-requires : goal.hand_over-requires
hand_over-requires c = rw c.next_change.ensures (change-small _ _ _ _ _ _)
