-- An addition inserts one range after another, so what an insertion keeps an addition keeps.
use mathlib.Core.List.{List, [], ◌∷◌}
use Prim.Native.Nat.{ℕ, ◌+◌, ◌*◌, ◌≤◌}
use native.Mathlib.Omega.{arith}
use lib.ListN.{length}
use Rattle.ranges.specs.Range.{Range}
use Rattle.ranges.specs.States.{InOrder}
use Rattle.ranges.specs.Insertion.{add_r}
use Rattle.ranges.proofs.Orders.{in-add, few-insert}
use Rattle.ranges.proofs.Runs.{Joined, joined-insert}

module _ (a : List Range) (hi : ℕ) (o : InOrder 0 a hi) where
  -- each range that goes in makes two more at most
  pub few-add : (b : List Range) (lo : ℕ) → InOrder lo b hi → length (add_r a b) ≤ length a + 2 * length b
  few-add [] lo p = omega arith
  few-add (r ∷ b) lo p =
      omega (arith, few-add b r.end p.2, few-insert r (add_r a b) 0 hi (in-add a b 0 r.end hi o p.2 (omega arith)) p.1)

  -- no two neighbours touch in the same state
  pub joined-add : (b : List Range) (lo : ℕ) → InOrder lo b hi → Joined a → Joined (add_r a b)
  joined-add [] lo p j = j
  joined-add (r ∷ b) lo p j = joined-insert r 0 hi (add_r a b) (in-add a b 0 r.end hi o p.2 (omega arith)) (joined-add b r.end p.2 j)
