-- The two sides of an insertion, put together.
use Rattle.std.proofs.Common.{◌≡◌, refl, ap, ◌∙◌, ℕ, zero, suc, ◌+◌, ◌-◌, ◌≤◌, ◌<◌, List, [], ◌∷◌, ◌++◌, reverse, length, take, drop, get_or, arith, append_assoc, length-drop, take-take, le-leb}
use Rattle.std.proofs.lemmas.List.{map-append}
use lib.Seq.{drop-drop, length-take-le}
use Rattle.ranges.specs.Range.{Range}
use Rattle.ranges.specs.States.{InOrder}
use Rattle.ranges.specs.Insertion.{join_r, join_l, join_lr, insert_r}
use Rattle.ranges.specs.Words.{range_of, ranges}
use Rattle.insertion.specs.Plan.{head_l, rest_l}
use Rattle.insertion.specs.Parts.{pieces, Behind, Before, Planned}
use Rattle.insertion.specs.declared.Side.{Side}
use Rattle.insertion.proofs.Plans.{insert-is}

-- the ranges that end by s stay in front
head-skip : (s : ℕ) (l : List ℕ) (k : ℕ) → ((i : ℕ) → i < k → (range_of (get_or l i 0)).end ≤ s) → k ≤ length l → head_l s (ranges l) ≡ ranges (take k l) ++ head_l s (ranges (drop k l))
head-skip s l zero h j = refl
head-skip s [] (suc k) h j = refl
head-skip s (w ∷ l) (suc k) h j =
    rw (le-leb (range_of w).end s (h 0 (omega arith)))
    (ap (λ (z : List Range). range_of w ∷ z) (head-skip s l k (λ i m. h (suc i) (omega arith)) (omega arith)))

-- and are not behind
rest-skip : (s : ℕ) (l : List ℕ) (k : ℕ) → ((i : ℕ) → i < k → (range_of (get_or l i 0)).end ≤ s) → k ≤ length l → rest_l s (ranges l) ≡ rest_l s (ranges (drop k l))
rest-skip s l zero h j = refl
rest-skip s [] (suc k) h j = refl
rest-skip s (w ∷ l) (suc k) h j =
    rw (le-leb (range_of w).end s (h 0 (omega arith))) (rest-skip s l k (λ i m. h (suc i) (omega arith)) (omega arith))

module _ (xs : List ℕ) (x s e k j : ℕ) (r l : Side)
    (o : InOrder 0 (ranges xs) 1440) (a : s ≡ (range_of x).start) (b : e ≡ (range_of x).end) (t : s ≤ e)
    (f : k ≤ length xs) (low : (i : ℕ) → i < k → (range_of (get_or xs i 0)).end ≤ s)
    (g : j ≤ length (drop k xs)) (low' : (i : ℕ) → i < j → (range_of (get_or (drop k xs) i 0)).end ≤ e)
    (q : Behind (join_r (range_of x) (rest_l e (ranges (drop j (drop k xs))))) (drop j (drop k xs)) r)
    (p : Before (join_l (reverse (ranges (take k xs) ++ head_l s (ranges (drop k xs)))) (range_of r.word)) (take k xs) l) where
  over : rest_l e (ranges xs) ≡ rest_l e (ranges (drop j (drop k xs)))
  over = rest-skip e xs k (λ i h. let u = low i h in omega arith) f ∙ rest-skip e (drop k xs) j low' g

  tail : drop (length (drop j (drop k xs)) - r.kept) (drop j (drop k xs)) ≡ drop (length xs - r.kept) xs
  tail =
      let w : k + j + (length (drop j (drop k xs)) - r.kept) ≡ length xs - r.kept = omega (arith, length-drop j (drop k xs), length-drop k xs, q.few) in
      ap (drop (length (drop j (drop k xs)) - r.kept)) (drop-drop j k xs) ∙ drop-drop (length (drop j (drop k xs)) - r.kept) (k + j) xs ∙ ap (λ (n : ℕ). drop n xs) w

  pub planned_is : Planned (insert_r (range_of x) (ranges xs)) xs (record { front = l.kept; cut = l.piece; word = l.word; rest = r.piece; behind = r.kept })
  planned_is =
      let i : insert_r (range_of x) (ranges xs) ≡ join_lr (reverse (head_l s (ranges xs))) (join_r (range_of x) (rest_l e (ranges xs))) = rw (a, b) (insert-is (range_of x) 0 1440 (ranges xs) o) in
      let u = p.list (ranges (pieces r.piece ++ drop (length (drop j (drop k xs)) - r.kept) (drop j (drop k xs)))) in
      let w : l.kept ≤ k = omega (arith, p.few, length-take-le k xs f) in
      record {
        few = omega (arith, p.few, length-take-le k xs f, q.few, length-drop j (drop k xs), length-drop k xs);
        list = rw (head-skip s xs k low f, over, q.list) at i ∙ u ∙ rw (tail, take-take l.kept k xs w) (simp (map-append, append_assoc));
      }
