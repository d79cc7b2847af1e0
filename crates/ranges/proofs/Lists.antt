-- Lists behind arrays that are read and written at a counter.
use mathlib.Core.Path.{◌≡◌, ◌∙◌}
use mathlib.Core.List.{List, [], ◌∷◌, ◌++◌, map-append}
use Prim.Native.Nat.{ℕ, ◌+◌, ◌≤◌, ◌<◌}
use native.Mathlib.Numerals.{add-one}
use native.Mathlib.Omega.{arith}
use lib.ListN.{length, take, drop, set, get_or, length-map, length-take, drop_of_length-le}
use lib.Seq.{drop-cons, get_or-take, take-suc-set, length-take-le}
use Rattle.ranges.specs.Words.{range_of, ranges}

module _ {A : Type 0} where
  -- the next element of the part that is still to be read
  pub peel : (xs : List A) (n i : ℕ) (d : A) → i < n → n ≤ length xs → drop i (take n xs) ≡ get_or xs i d ∷ drop (i + 1) (take n xs)
  peel xs n i d h k =
      let l : i < length (take n xs) = simp length-take (omega arith) in
      rw (add-one, drop-cons (take n xs) i d, get_or-take n xs i d)

  -- nothing is left to be read
  pub peeled : (xs : List A) (n i : ℕ) → n ≤ i → drop i (take n xs) ≡ []
  peeled xs n i h = drop_of_length-le (take n xs) {i = i} (simp length-take (omega arith))

  -- a store at the end of the written part
  pub push : (xs : List A) (n : ℕ) (a : A) → n < length xs → take (n + 1) (set xs n a) ≡ take n xs ++ (a ∷ [])
  push xs n a h = rw (add-one, take-suc-set)

-- the same for the ranges of words
pub push-ranges : (ys : List ℕ) (m w : ℕ) → m < length ys → ranges (take (m + 1) (set ys m w)) ≡ ranges (take m ys) ++ (range_of w ∷ [])
push-ranges ys m w h = rw (push ys m w h, map-append)

pub long-ranges : (ys : List ℕ) (m : ℕ) → m ≤ length ys → length (ranges (take m ys)) ≡ m
long-ranges ys m h = length-map (take m ys) range_of ∙ length-take-le m ys h
