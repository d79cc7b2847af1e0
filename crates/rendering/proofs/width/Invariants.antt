-- The digits counted and those of what is left are those of the number; what is left falls.
use Rattle.rendering.proofs.Decimals.{Counted}
use Rattle.rendering.proofs.width.Given as goal

abbrev pub invariant-loop-rest : goal.invariant-loop-rest
invariant-loop-rest l = Counted l.n l.k l.rest

abbrev pub decreases-loop-rest : goal.decreases-loop-rest
decreases-loop-rest l = l.rest
