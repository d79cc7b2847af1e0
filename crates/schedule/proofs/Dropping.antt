-- The loops over closed ranges without comment: their removal in place, and the test for nothing else.
use mathlib.Core.Path.{◌≡◌, refl}
use mathlib.Core.List.{List, [], ◌∷◌, ◌++◌}
use Prim.Native.Nat.{ℕ, ◌%◌, ◌≤◌}
use lib.Dec.{eqb}
use lib.ListN.{length, take, drop, get_or}
use Rattle.std.specs.List.{list_all}
use Rattle.ranges.specs.Closed.{blank_b, shut_b, drop_r}
use Rattle.ranges.specs.Words.{range_of, ranges}
use Rattle.ranges.proofs.Cases.{by}
use Rattle.ranges.proofs.WordLaws.{same_is}

-- the word 256 is closed, without a comment
pub blank_is : (w : ℕ) → eqb (w % 1024) 256 ≡ blank_b (range_of w)
unfolding range_of
blank_is w = same_is w 256

pub record Dropping (xs : List ℕ) (n : ℕ) (ys : List ℕ) (m i : ℕ) : Type 0 where
  pub long : n ≤ length xs
  pub size : length ys ≡ length xs
  pub upto : i ≤ n
  pub less : m ≤ i
  pub same : (q : ℕ) → i ≤ q → get_or ys q 0 ≡ get_or xs q 0
  pub sum : ranges (take m ys) ++ drop_r (ranges (drop i (take n xs))) ≡ drop_r (ranges (take n xs))

-- nothing but blank ranges is shown if each word is blank
pub shut_all : (xs : List ℕ) → list_all (λ w. blank_b (range_of w)) xs ≡ shut_b (ranges xs)
shut_all [] = refl
shut_all (w ∷ xs) = rw (shut_all xs) (by (blank_b (range_of w)) (λ e. rw e) (λ e. rw e))
