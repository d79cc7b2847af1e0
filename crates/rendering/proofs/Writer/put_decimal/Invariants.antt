-- The digits still to store, in front of those stored, give all of them.
use mathlib.Core.Path.{◌≡◌}
use Prim.Native.Nat.{◌-◌, ◌≤◌}
use lib.ListN.{length}
use lib.Seq.{sets}
use Rattle.rendering.proofs.Decimals.{digits}
use Rattle.rendering.proofs.Writer.put_decimal.Given as goal

abbrev pub invariant-loop-place : goal.invariant-loop-place
invariant-loop-place l =
    (l.self.at ≡ l.fn.self.at)
    × (l.self.out.ghost_name ≡ l.fn.self.out.ghost_name)
    × (length l.self.out.now ≡ length l.fn.self.out.now)
    × (l.place ≤ l.end)
    × (sets l.self.out.now l.self.at (digits (l.place - l.self.at) l.rest) ≡ sets l.fn.self.out.now l.self.at (digits (l.end - l.self.at) l.n))
