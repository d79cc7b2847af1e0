-- The sum is in order as its two parts are.
use mathlib.Core.Path.{◌≡◌}
use mathlib.Core.List.{List}
use Prim.Native.Nat.{ℕ, ◌+◌, ◌*◌}
use native.Mathlib.Omega.{arith}
use lib.ListN.{length, take}
use lib.Seq.{length-take-le}
use Rattle.std.specs.Prelude.{Some}
use Rattle.ranges.specs.Insertion.{add_r}
use Rattle.ranges.specs.Words.{ranges}
use Rattle.ranges.proofs.Orders.{in-add}
use Rattle.schedule.specs.Rooms.{Leaves}
use Rattle.reading.specs.Operators.{overlaid}
use Rattle.operators.specs.Rooms.{eval_in, Overlaying, Shows}
use Rattle.operators.proofs.lay_over.Goals as goal

module _ (n m r : ℕ) (xs ys zs : List ℕ) (k : Overlaying (Some n) xs (Some m) ys) where
  sum : length zs ≡ length xs → Leaves (add_r (ranges (take n xs)) (ranges (take m ys))) zs (n + 2 * length (take m ys)) r
      → Shows (overlaid add_r (eval_in (Some n) xs) (eval_in (Some m) ys)) zs (n + 2 * m) (Some r)
  sum z w =
      let e = length-take-le m ys k.above.long in
      record {
        is = rw w.list;
        ready = record {
          few = omega (arith, w.few, e);
          long = omega (arith, w.few, e, k.room);
          order = rw w.list (in-add (ranges (take n xs)) (ranges (take m ys)) 0 0 1440 k.below.order k.above.order (omega arith));
        };
      }

pub returns-in-Some-Some : goal.returns-in-Some-Some
returns-in-Some-Some c =
    let s = c.in-Some-Some in
    rw (s.is-0, s.is-1) (sum s.n s.m c.add_in.result c.args.room.now c.args.own.now c.add_in.new.room (rw (s.is-0, s.is-1) at c.requires) (cc) c.add_in.ensures)
