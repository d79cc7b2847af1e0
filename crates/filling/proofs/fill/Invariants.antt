-- What stands in front was read, in order, and each turn reads a byte more.
use Rattle.std.proofs.Common.{◌≡◌, ◌-◌, ◌≤◌, length, take}
use Rattle.std.specs.Io.KnownBytes.{Consumes}
use Rattle.filling.proofs.fill.Given as goal

abbrev pub invariant-loop-n : goal.invariant-loop-n
invariant-loop-n g l =
    (l.n ≤ length l.room)
    × (length l.room ≡ length l.fn.room)
    × Consumes (g.R.Read.remaining l.fn.input) (g.R.Read.remaining l.input) (take l.n l.room)

abbrev pub decreases-loop-n : goal.decreases-loop-n
decreases-loop-n g l = length l.initial.room - l.n
