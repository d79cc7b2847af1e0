-- What the written words mean: they are read back as the listing, minute by minute.
use mathlib.Core.Path.{◌≡◌, ap, ◌∙◌}
use Rattle.std.specs.Prelude.{Ok}
use mathlib.Core.List.{List, [], ◌∷◌, map}
use Prim.Native.Nat.{ℕ, ◌<◌}
use native.Mathlib.Omega.{arith}
use lib.Dec.{leb}
use lib.ListN.{length, take, drop, length-map}
use lib.Seq.{take_at}
use borrow.Author.Tests.{lt-ltb, le-ltb}
use Rattle.ranges.specs.Range.{Range, same, hull}
use Rattle.ranges.specs.States.{state_at, lit, InOrder, Each}
use Rattle.ranges.specs.Words.{range_of, word_of, ranges}
use Rattle.ranges.proofs.Cases.{split, by}
use Rattle.ranges.proofs.WordLaws.{ranges-back}
use Rattle.schedule.specs.declared.Schedule.{Schedule}
use Rattle.schedule.specs.Schedules.{view, valid}
use Rattle.schedule.proofs.Meaning.{State, Sound, valid-sound, all_fit, states-of}
use Rattle.listing.specs.Listing.{holes_l, merge_l, merged_l, listing, Tiles, Lists}
use Rattle.listing.specs.Writing.{listing_of, cells_after}
use Rattle.listing.proofs.Tiling.{listed}

-- what tiles the day is in order
tiles-order : (lo : ℕ) (l : List Range) → Tiles lo l 1440 → InOrder lo l 1440
tiles-order lo [] o = omega arith
tiles-order lo (r ∷ l) o = let p = o.0 in (omega arith, o.1, tiles-order r.end l o.2)

-- every entry's state is a range's, or closed with comment 0
each-holes : (lo : ℕ) (l : List Range) → Each State l → Each State (holes_l lo l)
each-holes lo [] e = split lo 1440 (λ h. rw (lt-ltb lo 1440 h) ((omega arith, omega arith), tt)) (λ h. rw (le-ltb lo 1440 h) tt)
each-holes lo (r ∷ l) e =
    let ih = each-holes r.end l e.1 in
    split lo r.start
    (λ h. rw (lt-ltb lo r.start h) ((omega arith, omega arith), (e.0, ih)))
    (λ h. rw (le-ltb lo r.start h) (e.0, ih))

each-merge : (c : Range) (l : List Range) → Each State (c ∷ l) → Each State (merge_l c l)
each-merge c [] e = e
each-merge c (r ∷ l) e =
    by (same c r)
    (λ q. rw q (each-merge (hull c r) l (e.0, e.1.1)))
    (λ q. rw q (e.0, each-merge r l e.1))

each-merged : (l : List Range) → Each State l → Each State (merged_l l)
each-merged [] e = tt
each-merged (c ∷ l) e = each-merge c l e

pub listing-back : (l : List Range) → InOrder 0 l 1440 → Each State l → ranges (map word_of (listing l)) ≡ listing l
listing-back l o e = ranges-back (listing l) (all_fit 0 (listing l) (tiles-order 0 (listing l) (listed l o).tiles) (each-merged (holes_l 0 l) (each-holes 0 l e)))

-- a listing that was written
record Shown-by (s : Schedule) (o : List ℕ) (n : ℕ) : Type 0 where
  sound : Sound s
  is : ranges (take n (cells_after s o)) ≡ listing (view s)

written_is : (s : Schedule) (o : List ℕ) (n : ℕ) → listing_of s (length o) ≡ Ok n → Shown-by s o n
written_is s o n z =
    by (valid s)
    (λ p. let u = valid-sound s p in let l = listing (view s) in
    by (leb (length l) (length o))
    (λ q. let said = rw (p, q) at z in
    let same : length l ≡ n = cc in
    record {
      sound = u;
      is = rw (p, q, ← same)
          (ap (λ (w : List ℕ). map range_of w) (take_at (map word_of l) (drop (length l) o) (length l) (length-map l word_of))
          ∙ listing-back (view s) u.order (states-of (take s.len s.words) u.kinds));
    })
    (λ q. let said = rw (p, q) at z in cc))
    (λ p. let said = rw p at z in cc)

-- THEOREM: the words written keep the rule of the listing
pub words-list : (s : Schedule) (o : List ℕ) (n : ℕ) → listing_of s (length o) ≡ Ok n → Lists (view s) (ranges (take n (cells_after s o)))
words-list s o n z = let w = written_is s o n z in rw w.is (listed (view s) w.sound.order)

-- THEOREM: at every minute of the day the words show the schedule's state, holes being closed
pub words-show : (s : Schedule) (o : List ℕ) (n : ℕ) → listing_of s (length o) ≡ Ok n → (t : ℕ) → t < 1440 → state_at (ranges (take n (cells_after s o))) t ≡ lit (state_at (view s) t)
words-show s o n z t h = (words-list s o n z).shows_all t h
