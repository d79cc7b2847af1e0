-- Each turn looks at one day more: what the search gives from the day reached is what it gives from the first.
use mathlib.Core.Path.{◌≡◌}
use lib.ListN.{length}
use Rattle.next_change.proofs.Walking.{Walks}
use Rattle.next_change.proofs.change_within.Given as goal

abbrev pub invariant-loop-i : goal.invariant-loop-i
invariant-loop-i l = (length l.room ≡ 192) × Walks l.h l.row l.sheet l.minute l.count l.fn.d l.day l.since l.i
