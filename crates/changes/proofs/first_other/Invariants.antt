-- What is left to be walked gives the same minute as the whole: each turn passes a hole and a range.
use Rattle.changes.proofs.Walking.{Walks}
use Rattle.changes.proofs.first_other.Given as goal

abbrev pub invariant-loop-w : goal.invariant-loop-w
invariant-loop-w l = Walks l.words l.s l.from l.shut l.t l.w-index
