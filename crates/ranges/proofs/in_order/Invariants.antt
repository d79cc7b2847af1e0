-- The test of all is the test of those left, from the end of the last one tested.
use Rattle.std.proofs.Common.{◌≡◌, drop}
use Rattle.ranges.specs.States.{order_b}
use Rattle.ranges.specs.Words.{ranges}
use Rattle.ranges.proofs.in_order.Given as goal

abbrev pub invariant-loop-w : goal.invariant-loop-w
invariant-loop-w l = order_b 0 (ranges l.words) ≡ order_b l.lo (ranges (drop l.w-index l.words))
