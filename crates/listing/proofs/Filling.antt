-- The loop that writes the ranges and the holes between them.
use Rattle.std.proofs.Common.{◌≡◌, refl, sym, ap, ◌∙◌, ℕ, ◌+◌, ◌≤◌, ◌<◌, List, [], ◌∷◌, ◌++◌, length, take, drop, set, get_or, arith, append_assoc, length-append, length-set, drop-cons, add-one}
use lib.ListN.{drop_of_length-le, length-map}
use borrow.Author.Tests.{lt-ltb, le-ltb}
use Rattle.ranges.specs.Range.{Range, between}
use Rattle.ranges.specs.States.{InOrder}
use Rattle.ranges.specs.Insertion.{ahead}
use Rattle.ranges.specs.Words.{range_of, ranges}
use Rattle.ranges.proofs.Cases.{split}
use Rattle.ranges.proofs.Lists.{push-ranges, long-ranges}
use Rattle.ranges.proofs.Orders.{in_end}
use Rattle.listing.specs.Listing.{closed, holes_l}
use Rattle.listing.specs.Writing.{Closes, Entries}
use Rattle.listing.proofs.Tiling.{few-holes}

-- the word 256 is closed, without a comment
pub closed_is : (a b : ℕ) → between a b (range_of 256) ≡ closed a b
unfolding range_of
closed_is a b = refl

-- what comes after a hole
ahead-then : (r : Range) (l : List Range) → ahead r l ≡ ahead r [] ++ l
ahead-then r l =
    split r.start r.end
    (λ k. rw (lt-ltb r.start r.end k))
    (λ k. rw (le-ltb r.start r.end k))

some-holes : (l : List Range) → 1 ≤ length (holes_l 0 l)
some-holes [] = omega arith
some-holes (r ∷ l) = rw (ahead-then (closed 0 r.start) (r ∷ holes_l r.end l), length-append) (omega arith)

-- what is written, and the holes of what is left from minute lo on
pub record Holes (xs zs ys : List ℕ) (m lo i : ℕ) : Type 0 where
  pub size : length ys ≡ length zs
  pub fits : m ≤ 129
  pub day : lo ≤ 1440
  pub order : InOrder lo (ranges (drop i xs)) 1440
  pub sum : ranges (take m ys) ++ holes_l lo (ranges (drop i xs)) ≡ holes_l 0 (ranges xs)

module _ (xs zs ys : List ℕ) (m lo i : ℕ) (few : length xs ≤ 64) (big : 129 ≤ length zs) (st : Holes xs zs ys m lo i) where
  whole : length (holes_l 0 (ranges xs)) ≤ 129
  whole = omega (arith, few-holes 0 (ranges xs), length-map xs range_of, few)

  count : m + length (holes_l lo (ranges (drop i xs))) ≤ 129
  count =
      let e = sym (length-append (ranges (take m ys)) (holes_l lo (ranges (drop i xs)))) ∙ ap length st.sum in
      omega (arith, e, long-ranges ys m (omega (arith, st.fits, st.size, big)), whole)

  module _ (h : i < length xs) (s : ℕ) (q : s ≡ (range_of (get_or xs i 0)).start) where
    next : drop i xs ≡ get_or xs i 0 ∷ drop (i + 1) xs
    next = rw (add-one, drop-cons xs i 0)

    -- what is left with the hole in front of the next range
    abbrev behind : List Range
    behind = range_of (get_or xs i 0) ∷ holes_l (range_of (get_or xs i 0)).end (ranges (drop (i + 1) xs))

    left : holes_l lo (ranges (drop i xs)) ≡ ahead (closed lo (range_of (get_or xs i 0)).start) [] ++ behind
    left = rw next (ahead-then (closed lo (range_of (get_or xs i 0)).start) behind)

    pub hole_ready : s < 2048 → (lo < 2048) × ((s < 2048) × ((m ≤ length ys) × (lo < s → m < length ys)))
    hole_ready k =
        let c : m + (length (ahead (closed lo (range_of (get_or xs i 0)).start) []) + length behind) ≤ 129 = rw (left, length-append) at count in
        (omega (arith, st.day), (k, (omega (arith, st.fits, st.size, big), λ _. omega (arith, c, st.size, big))))

    module _ (cs : List ℕ) (r : ℕ) (c : Closes ys m lo s cs r) where
      sum : ranges (take r cs) ++ behind ≡ holes_l 0 (ranges xs)
      sum =
          let e : ranges (take r cs) ≡ ranges (take m ys) ++ ahead (closed lo (range_of (get_or xs i 0)).start) [] = rw (← q) c.list in
          rw (e, append_assoc, ← left) st.sum

      pub range_fits : r < 129
      range_fits =
          let e : length (ranges (take r cs)) + length behind ≡ length (holes_l 0 (ranges xs)) = sym (length-append (ranges (take r cs)) behind) ∙ ap length sum in
          omega (arith, e, long-ranges cs r c.few, whole)

      pub holes_more : (z : ℕ) → z ≡ (range_of (get_or xs i 0)).end → Holes xs zs (set cs r (get_or xs i 0)) (r + 1) z (i + 1)
      holes_more z e =
          let o = rw next at st.order in
          record {
            size = length-set cs r (get_or xs i 0) ∙ c.size ∙ st.size;
            fits = omega (arith, range_fits);
            day = rw e (in_end (range_of (get_or xs i 0)).end 1440 (ranges (drop (i + 1) xs)) o.2);
            order = rw e o.2;
            sum = rw (push-ranges cs r (get_or xs i 0) (omega (arith, range_fits, c.size, st.size, big)), append_assoc, e) sum;
          }

  module _ (h : length xs ≤ i) where
    none : drop i xs ≡ []
    none = drop_of_length-le xs {i = i} h

    pub last_ready : (lo < 2048) × ((1440 < 2048) × ((m ≤ length ys) × (lo < 1440 → m < length ys)))
    last_ready =
        let c = rw none at count in
        (omega (arith, st.day), (omega arith, (omega (arith, st.fits, st.size, big), λ k. let d = rw (lt-ltb lo 1440 k) at c in omega (arith, d, st.size, big))))

    pub filled : (cs : List ℕ) (r : ℕ) → Closes ys m lo 1440 cs r → Entries (holes_l 0 (ranges xs)) cs 129 r
    filled cs r c =
        let e : ranges (take r cs) ≡ holes_l 0 (ranges xs) = c.list ∙ rw none at st.sum in
        let n : r ≡ length (holes_l 0 (ranges xs)) = sym (long-ranges cs r c.few) ∙ ap length e in
        record { some = omega (arith, n, some-holes (ranges xs)); few = omega (arith, n, whole); list = e }
