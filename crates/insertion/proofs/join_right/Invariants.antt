-- The same to the right.
use Rattle.std.proofs.Common.{length}
use Rattle.insertion.proofs.Joining.{Right}
use Rattle.insertion.proofs.join_right.Given as goal

abbrev pub invariant-loop-right : goal.invariant-loop-right
invariant-loop-right l = Right l.held l.x l.right l.word

abbrev pub decreases-loop-right : goal.decreases-loop-right
decreases-loop-right l = length l.right
