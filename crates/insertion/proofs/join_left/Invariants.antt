-- Joining with all on the left is joining what is joined so far with those left.
use Rattle.std.proofs.Common.{length}
use Rattle.insertion.proofs.Joining.{Left}
use Rattle.insertion.proofs.join_left.Given as goal

abbrev pub invariant-loop-left : goal.invariant-loop-left
invariant-loop-left l = Left l.held l.x l.left l.word

abbrev pub decreases-loop-left : goal.decreases-loop-left
decreases-loop-left l = length l.left
