-- An insertion into ranges in order touches only the ranges at its two ends: the cut lists are a front and a back of the list, each with at most one cut range.
use mathlib.Core.Path.{◌≡◌, refl, ap}
use mathlib.Core.Bool.{Bool, true, false, cond}
use mathlib.Core.List.{List, [], ◌∷◌, reverse}
use Prim.Native.Nat.{ℕ, min, max, ◌≤◌, ◌<◌}
use native.Mathlib.Omega.{arith}
use lib.Dec.{leb}
use borrow.Author.Tests.{lt-ltb, le-ltb, leb-true, leb-false}
use Rattle.ranges.specs.Range.{Range}
use Rattle.ranges.specs.States.{InOrder}
use Rattle.ranges.specs.Insertion.{end_at, start_at, ahead, before_l, after_l, join_r, join_lr, insert_r}
use Rattle.ranges.proofs.Orders.{none_before}
use Rattle.ranges.proofs.Runs.{after_same}
use Rattle.insertion.specs.Plan.{head_l, rest_l}

module _ (s : ℕ) where
  by_end : (P : Bool → Type 0) (r : Range) → (r.end ≤ s → P true) → (s < r.end → P false) → P (leb r.end s)
  by_end P r t f = go (leb r.end s) refl
    where
      go : (b : Bool) → leb r.end s ≡ b → P b
      go true e = t (leb-true r.end s e)
      go false e = f (leb-false r.end s e)

  pub before-is : (lo hi : ℕ) (l : List Range) → InOrder lo l hi → before_l s l ≡ head_l s l
  before-is lo hi [] o = refl
  before-is lo hi (r ∷ l) o =
      by_end (λ b. ahead (end_at s r) (before_l s l) ≡ cond b (r ∷ head_l s l) (ahead (end_at s r) [])) r
      (λ h. let m : min r.end s ≡ r.end = omega arith in rw (m, lt-ltb r.start r.end o.1) (ap (λ (k : List Range). r ∷ k) (before-is r.end hi l o.2)))
      (λ h. rw (none_before s r.end hi l o.2 (omega arith)))

  pub after_is : (lo hi : ℕ) (l : List Range) → InOrder lo l hi → after_l s l ≡ rest_l s l
  after_is lo hi [] o = refl
  after_is lo hi (r ∷ l) o =
      by_end (λ b. ahead (start_at s r) (after_l s l) ≡ cond b (rest_l s l) (start_at s r ∷ l)) r
      (λ h. rw (le-ltb (max r.start s) r.end (omega arith)) (after_is r.end hi l o.2))
      (λ h. rw (lt-ltb (max r.start s) r.end (omega arith), after_same s r.end hi l o.2 (omega arith)))

-- so an insertion works on the front and the back
pub insert-is : (x : Range) (lo hi : ℕ) (l : List Range) → InOrder lo l hi → insert_r x l ≡ join_lr (reverse (head_l x.start l)) (join_r x (rest_l x.end l))
insert-is x lo hi l o = rw (before-is x.start lo hi l o, after_is x.end lo hi l o)
