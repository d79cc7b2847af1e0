-- The walk over a day's ranges and the holes between them: what is left to be searched gives the same minute as the whole.
use mathlib.Core.Path.{◌≡◌, refl, sym, ◌∙◌}
use mathlib.Core.Bool.{Bool, true, false}
use mathlib.Core.List.{List, [], ◌∷◌}
use Prim.Native.Nat.{ℕ, ◌+◌, ◌-◌, ◌≤◌, ◌<◌, max}
use native.Mathlib.Omega.{arith}
use Rattle.std.specs.Prelude.{Some, None, ◌≢◌}
use borrow.Author.Tests.{lt-ltb, le-ltb}
use native.Mathlib.Numerals.{add-one}
use lib.ListN.{length, drop, get_or, drop_of_length-le}
use lib.Seq.{drop-cons}
use Rattle.ranges.specs.Range.{Range, same}
use Rattle.ranges.specs.States.{Shown, shows, state_at, lit, InOrder}
use Rattle.ranges.specs.Words.{range_of, ranges}
use Rattle.ranges.proofs.Cases.{split}
use Rattle.ranges.proofs.Points.{on, off}
use Rattle.ranges.proofs.Orders.{lower, in_end}
use Rattle.ranges.proofs.Closing.{dark-before}
use Rattle.changes.specs.Search.{alike, other, today}
use Rattle.changes.specs.Words.{Ordered, state_in}
use Rattle.changes.proofs.Minutes.{skip, stop, none_left, other-same}

-- the first minute from t on of another state than s, on the ranges l with their holes closed
abbrev pub first_on : List Range → Shown → ℕ → ℕ
first_on l s t = other (λ u. lit (state_at l u)) s t (1440 - t)

module _ (r : Range) (l : List Range) (s : Shown) (t : ℕ) (o : InOrder 0 (r ∷ l) 1440) where
  -- a range in order ends by 24:00
  upper : r.end ≤ 1440
  upper = in_end r.end 1440 l o.2

  -- before r nothing is shown, since the ranges are in order
  hole : (v : ℕ) → v < r.start → lit (state_at (r ∷ l) v) ≡ shows 1 0
  hole v h = let q = o.1 in rw (off r v (omega arith), dark-before r.end 1440 l v o.2 (omega arith))

  -- a hole is closed: it is passed where s is
  pub hole-passed : t < r.start → alike (shows 1 0) s ≡ true → first_on (r ∷ l) s t ≡ first_on (r ∷ l) s r.start
  hole-passed h e =
      let q = o.1 in let z = upper in
      skip (λ u. lit (state_at (r ∷ l) u)) s (1440 - t) (1440 - r.start) t r.start (omega arith) (omega arith) (λ v x y. rw (hole v y) e)

  -- and its first minute is the answer where s is not
  pub hole-stops : t < r.start → alike (shows 1 0) s ≡ false → first_on (r ∷ l) s t ≡ t
  hole-stops h e = stop (λ u. lit (state_at (r ∷ l) u)) s (1440 - t) t (rw (hole t h) e)

  -- from its end on, r shows nothing
  pub range-past : r.end ≤ t → first_on (r ∷ l) s t ≡ first_on l s t
  range-past h = other-same (λ u. lit (state_at (r ∷ l) u)) (λ u. lit (state_at l u)) s (1440 - t) t (λ u x y. rw (off r u (omega arith)))

  module _ (h : r.start ≤ t) (k : t < r.end) where
    -- a range of another state is the answer at the minute reached
    pub range-stops : alike (shows r.kind r.comment) s ≡ false → first_on (r ∷ l) s t ≡ t
    range-stops e = stop (λ u. lit (state_at (r ∷ l) u)) s (1440 - t) t (rw (on r t h k) e)

    -- a range of s's state is passed, and shows nothing behind its end
    pub range-passed : alike (shows r.kind r.comment) s ≡ true → first_on (r ∷ l) s t ≡ first_on l s r.end
    range-passed e =
        let z = upper in
        skip (λ u. lit (state_at (r ∷ l) u)) s (1440 - t) (1440 - r.end) t r.end (omega arith) (omega arith) (λ v x y. rw (on r v (omega arith) y) e)
        ∙ other-same (λ u. lit (state_at (r ∷ l) u)) (λ u. lit (state_at l u)) s (1440 - r.end) r.end (λ u x y. rw (off r u (omega arith)))

-- behind the last range all is a hole
module _ (s : Shown) (t : ℕ) where
  -- it is passed where s is closed
  pub last-passed : t ≤ 1440 → alike (shows 1 0) s ≡ true → first_on [] s t ≡ 1440
  last-passed h e = skip (λ u. shows 1 0) s (1440 - t) 0 t 1440 (omega arith) h (λ v x y. e) ∙ none_left (λ u. shows 1 0) s 1440

  -- and stops the search where s is not
  pub last-stops : alike (shows 1 0) s ≡ false → first_on [] s t ≡ t
  last-stops e = stop (λ u. shows 1 0) s (1440 - t) t e

-- the word 256 is closed, without a comment
shut-is : (s : ℕ) → same (range_of 256) (range_of s) ≡ alike (shows 1 0) (state_in s)
unfolding range_of
shut-is s = refl

-- what is left from the word at i on is that word's range and the rest
peel : (xs : List ℕ) (i : ℕ) → i < length xs → drop i xs ≡ get_or xs i 0 ∷ drop (i + 1) xs
peel xs i h = rw (add-one, drop-cons xs i 0)

-- a minute before 24:00 is the answer, and 24:00 none
is-today : (z m : ℕ) → m < 1440 → m ≡ z → Some m ≡ today z
is-today z m h e = rw (← e, lt-ltb m 1440 h)

is-none : (z : ℕ) → z ≡ 1440 → None ≡ today z
is-none z e = rw (le-ltb z 1440 (omega arith))

pub record Walks (xs : List ℕ) (s from : ℕ) (shut : Bool) (t i : ℕ) : Type 0 where
  pub day : t ≤ 1440
  pub closed : shut ≡ alike (shows 1 0) (state_in s)
  pub order : InOrder 0 (ranges (drop i xs)) 1440
  pub same : first_on (ranges xs) (state_in s) from ≡ first_on (ranges (drop i xs)) (state_in s) t

-- at the start all is left
pub walk-begin : (xs : List ℕ) (s from : ℕ) (shut : Bool) → Ordered xs → from ≤ 1440 → shut ≡ same (range_of 256) (range_of s) → Walks xs s from shut from 0
walk-begin xs s from shut o h e = record { day = h; closed = e ∙ shut-is s; order = o; same = refl }

module _ (xs : List ℕ) (s from : ℕ) (shut : Bool) (t i : ℕ) (st : Walks xs s from shut t i) where
  module _ (h : i < length xs) where
    abbrev r : Range
    r = range_of (get_or xs i 0)

    abbrev rest : List Range
    rest = ranges (drop (i + 1) xs)

    order-here : InOrder 0 (r ∷ rest) 1440
    order-here = rw (peel xs i h) at st.order

    same_here : first_on (ranges xs) (state_in s) from ≡ first_on (r ∷ rest) (state_in s) t
    same_here = rw (peel xs i h) at st.same

    upto : r.end ≤ 1440
    upto = in_end r.end 1440 rest order-here.2

    -- the hole before the range stops where s is not closed
    pub hole-stop : t < r.start → shut ≡ false → Some t ≡ today (first_on (ranges xs) (state_in s) from)
    hole-stop k q =
        let z = upto in let o : r.start < r.end = order-here.1 in
        is-today _ t (omega arith) (sym (same_here ∙ hole-stops r rest (state_in s) t order-here k (sym st.closed ∙ q)))

    -- else it is passed
    module _ (u : ℕ) (m : u ≡ max t r.start) (p : t < r.start → shut ≡ true) where
      same_inside : first_on (ranges xs) (state_in s) from ≡ first_on (r ∷ rest) (state_in s) u
      same_inside = split t r.start
          (λ k. let e : u ≡ r.start = omega arith in same_here ∙ hole-passed r rest (state_in s) t order-here k (sym st.closed ∙ p k) ∙ rw e)
          (λ k. let e : u ≡ t = omega arith in same_here ∙ rw e)

      -- a range of another state stops
      pub range-stop : u < r.end → same r (range_of s) ≡ false → Some u ≡ today (first_on (ranges xs) (state_in s) from)
      range-stop k q =
          let z = upto in
          is-today _ u (omega arith) (sym (same_inside ∙ range-stops r rest (state_in s) u order-here (omega arith) k q))

      -- and what is not behind the minute reached is passed
      pub walk-on : (v : ℕ) → v ≡ max u r.end → (u < r.end → same r (range_of s) ≡ true) → Walks xs s from shut v (i + 1)
      walk-on v n q =
          let z = upto in
          let o : r.start < r.end = order-here.1 in
          let d = st.day in
          record {
            day = omega arith;
            closed = st.closed;
            order = lower r.end 0 1440 rest (omega arith) order-here.2;
            same = split u r.end
                (λ k. let e : v ≡ r.end = omega arith in same_inside ∙ range-passed r rest (state_in s) u order-here (omega arith) k (q k) ∙ rw e)
                (λ k. let e : v ≡ u = omega arith in same_inside ∙ range-past r rest (state_in s) u order-here k ∙ rw e);
          }

  module _ (h : length xs ≤ i) where
    -- with no range left, the rest of the day is a hole
    same_end : first_on (ranges xs) (state_in s) from ≡ first_on [] (state_in s) t
    same_end = rw (drop_of_length-le xs {i = i} h) at st.same

    pub walk_end : shut ≡ true → None ≡ today (first_on (ranges xs) (state_in s) from)
    walk_end q = is-none _ (same_end ∙ last-passed (state_in s) t st.day (sym st.closed ∙ q))

    -- at 24:00 there is no rest
    pub walk-end-none : t ≡ 1440 → None ≡ today (first_on (ranges xs) (state_in s) from)
    walk-end-none q =
        let z : 1440 - t ≡ 0 = omega arith in
        is-none _ (same_end ∙ rw (z, none_left (λ u. shows 1 0) (state_in s) t) q)

    pub walk-end-stop : shut ≡ false → t ≢ 1440 → Some t ≡ today (first_on (ranges xs) (state_in s) from)
    walk-end-stop q k =
        let d = st.day in
        is-today _ t (omega arith) (sym (same_end ∙ last-stops (state_in s) t (sym st.closed ∙ q)))
