-- What is written so far and the merging of what is left make the whole.
use Rattle.listing.proofs.Merging.{Merge}
use Rattle.listing.proofs.merge.Given as goal

abbrev pub invariant-loop-i : goal.invariant-loop-i
invariant-loop-i l = Merge l.initial.room l.n l.room l.current l.count l.i
