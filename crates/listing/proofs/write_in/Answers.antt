-- The entries stand in the room; they are copied if they fit.
use Rattle.std.proofs.Common.{rules}
use Rattle.listing.proofs.Answering.{long_enough, too_short}
use Rattle.listing.proofs.write_in.Goals as goal

pub returns-then-count-out : goal.returns-then-count-out
returns-then-count-out c = too_short _ _ _ _ c.list_in-count.ensures (search rules) c.if-count-out.true

pub returns : goal.returns
returns c = long_enough _ _ _ _ c.list_in-count.ensures (search rules) c.if-count-out.false _ c.copy_in.ensures
