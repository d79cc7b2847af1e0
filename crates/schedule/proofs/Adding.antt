-- The loop of an addition: the ranges that went in so far are the last ones of the second list.
use Rattle.std.proofs.Common.{◌≡◌, ap, ◌∙◌, ℕ, zero, suc, ◌+◌, ◌*◌, ◌≤◌, ◌<◌, List, [], ◌∷◌, ◌++◌, length, take, drop, arith, length-drop}
use Rattle.ranges.specs.States.{InOrder}
use Rattle.ranges.specs.Insertion.{insert_r, add_r}
use Rattle.ranges.specs.Words.{range_of, ranges}
use Rattle.ranges.proofs.Orders.{in-add, lower}
use Rattle.insertion.specs.Parts.{Inserted}
use Rattle.schedule.specs.Rooms.{AddReady}
use Rattle.schedule.proofs.Backwards.{Front, done, done_more, front_less}

-- the end of a list in order is in order
in-drop : (i lo hi : ℕ) (l : List ℕ) → InOrder lo (ranges l) hi → InOrder 0 (ranges (drop i l)) hi
in-drop zero lo hi l o = lower lo 0 hi (ranges l) (omega arith) o
in-drop (suc i) lo hi [] o = omega arith
in-drop (suc i) lo hi (w ∷ l) o = in-drop i (range_of w).end hi l o.2

-- the room ys has the ranges of bs that are done over the first n of xs
pub record Adding (xs : List ℕ) (n : ℕ) (bs ys : List ℕ) (k : ℕ) (left : List ℕ) : Type 0 where
  pub front : Front bs left
  pub size : length ys ≡ length xs
  pub count : k ≤ n + 2 * length (done bs left)
  pub list : ranges (take k ys) ≡ add_r (ranges (take n xs)) (ranges (done bs left))

module _ (xs : List ℕ) (n : ℕ) (bs : List ℕ) (h : AddReady xs n bs) where
  module _ (ys : List ℕ) (k : ℕ) (left : List ℕ) (st : Adding xs n bs ys k left) where
    order : (l : List ℕ) → InOrder 0 (ranges (done bs l)) 1440
    order l = in-drop (length l) 0 1440 bs h.order'

    module _ (rest : List ℕ) (w : ℕ) (e : left ≡ rest ++ (w ∷ [])) where
      next : done bs rest ≡ w ∷ done bs left
      next = done_more bs left rest w st.front e

      pub add_ready : (k + 2 ≤ length ys) × (InOrder 0 (ranges (take k ys)) 1440 × ((range_of w).start < (range_of w).end))
      add_ready = (
        omega (arith, h.room, st.size, st.count, length-drop (length left) bs, length-drop (length rest) bs, ap length next),
        (
          rw st.list (in-add (ranges (take n xs)) (ranges (done bs left)) 0 0 1440 h.order (order left) (omega arith)),
          (rw next at (order rest)).1,
        ),
      )

      pub add_more : (zs : List ℕ) (r : ℕ) → Inserted (insert_r (range_of w) (ranges (take k ys))) ys zs k r → Adding xs n bs zs r rest
      add_more zs r q = record {
        front = front_less bs left rest w st.front e;
        size = q.size ∙ st.size;
        count = omega (arith, q.few, st.count, ap length next);
        list = rw next (rw st.list at q.list);
      }
