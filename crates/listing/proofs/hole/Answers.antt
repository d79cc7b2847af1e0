-- The word 256 is closed, without a comment.
use Rattle.listing.proofs.Filling.{closed_is}
use mathlib.Core.Path.{◌∙◌}
use Rattle.listing.proofs.hole.Goals as goal

pub returns : goal.returns
returns c = c.from_to.ensures ∙ closed_is _ _
