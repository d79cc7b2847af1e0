-- What is written so far and the holes of what is left make the whole.
use Rattle.listing.proofs.Filling.{Holes}
use Rattle.listing.proofs.fill.Given as goal

abbrev pub invariant-loop-w : goal.invariant-loop-w
invariant-loop-w l = Holes l.words l.initial.room l.room l.count l.from l.w-index
