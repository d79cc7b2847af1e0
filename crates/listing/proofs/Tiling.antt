-- The listing tiles the day, its neighbours differ, and it shows what the ranges show: filling holes and merging keep each of these.
use mathlib.Core.Path.{◌≡◌, refl, sym, ap, ◌∙◌}
use mathlib.Core.Bool.{true, false, cond}
use mathlib.Core.List.{List, [], ◌∷◌}
use Prim.Native.Nat.{ℕ, ◌+◌, ◌*◌, ◌≤◌, ◌<◌}
use native.Mathlib.Omega.{arith}
use lib.Dec.{eqb}
use lib.ListN.{length}
use borrow.Author.Tests.{lt-ltb, le-ltb, eqb-true}
use Rattle.ranges.specs.Range.{Range, same, hull}
use Rattle.ranges.specs.States.{Shown, shows, covers, state_at, lit, InOrder}
use Rattle.ranges.proofs.Cases.{split, by, both_true}
use Rattle.ranges.proofs.Points.{on, off, hull-at, ahead-at}
use Rattle.ranges.proofs.Orders.{few-ahead}
use Rattle.ranges.proofs.Closing.{dark-before}
use Rattle.listing.specs.Listing.{closed, holes_l, merge_l, merged_l, listing, Tiles, Unlike, Differ, Lists}

alike : (a b : Range) → same a b ≡ true → (a.kind ≡ b.kind) × (a.comment ≡ b.comment)
alike a b h =
    let q = both_true (eqb a.kind b.kind) (eqb a.comment b.comment) h in
    (eqb-true _ _ q.0, eqb-true _ _ q.1)

-- holes
tiles-holes : (lo : ℕ) (l : List Range) → InOrder lo l 1440 → Tiles lo (holes_l lo l) 1440
tiles-holes lo [] o =
    split lo 1440
    (λ h. rw (lt-ltb lo 1440 h) (refl, h, refl))
    (λ h. rw (le-ltb lo 1440 h) (omega arith))
tiles-holes lo (r ∷ l) o =
    let ih = tiles-holes r.end l o.2 in
    let p = o.0 in
    split lo r.start
    (λ h. rw (lt-ltb lo r.start h) (refl, h, (refl, o.1, ih)))
    (λ h. rw (le-ltb lo r.start h) (omega arith, o.1, ih))

holes-at : (lo : ℕ) (l : List Range) (t : ℕ) → InOrder lo l 1440 → lo ≤ t → t < 1440 → state_at (holes_l lo l) t ≡ lit (state_at l t)
holes-at lo [] t o h k = ahead-at (closed lo 1440) [] t ∙ rw (on (closed lo 1440) t h k)
holes-at lo (r ∷ l) t o h k =
    let p = o.0 in let q = o.1 in
    ahead-at (closed lo r.start) (r ∷ holes_l r.end l) t
    ∙ split t r.start
    (λ i. rw (on (closed lo r.start) t h i, off r t (omega arith), dark-before r.end 1440 l t o.2 (omega arith)))
    (λ i. rw (off (closed lo r.start) t (omega arith)) (split t r.end
    (λ j. rw (on r t i j))
    (λ j. rw (off r t (omega arith)) (holes-at r.end l t o.2 j k))))

-- merging
tiles-merge : (c : Range) (l : List Range) (hi : ℕ) → c.start < c.end → Tiles c.end l hi → Tiles c.start (merge_l c l) hi
tiles-merge c [] hi h o = (refl, h, o)
tiles-merge c (r ∷ l) hi h o =
    let p = o.0 in let q = o.1 in
    by (same c r)
    (λ e. rw e (tiles-merge (hull c r) l hi (omega arith) o.2))
    (λ e. rw e (refl, h, rw (← p) (tiles-merge r l hi q o.2)))

merge-at : (c : Range) (l : List Range) (hi t : ℕ) → c.start < c.end → Tiles c.end l hi → state_at (merge_l c l) t ≡ state_at (c ∷ l) t
merge-at c [] hi t h o = refl
merge-at c (r ∷ l) hi t h o =
    let p = o.0 in let q = o.1 in
    by (same c r)
    (λ e. let a = alike c r e in
    rw e (merge-at (hull c r) l hi t (omega arith) o.2 ∙ hull-at c r l t h q (record { ends = sym p; kinds = a.0; comments = a.1 })))
    (λ e. rw e (ap (λ (z : Shown). cond (covers c t) (shows c.kind c.comment) z) (merge-at r l hi t q o.2)))

-- what is merged begins in c's state
like-first : (a c : Range) (l : List Range) → same a c ≡ false → Unlike a (merge_l c l)
like-first a c [] h = h
like-first a c (r ∷ l) h =
    by (same c r)
    (λ e. rw e (like-first a (hull c r) l h))
    (λ e. rw e h)

differ-merge : (c : Range) (l : List Range) → Differ (merge_l c l)
differ-merge c [] = (tt, tt)
differ-merge c (r ∷ l) =
    by (same c r)
    (λ e. rw e (differ-merge (hull c r) l))
    (λ e. rw e (like-first c r l e, differ-merge r l))

-- the listing
tiles-merged : (l : List Range) (lo hi : ℕ) → Tiles lo l hi → Tiles lo (merged_l l) hi
tiles-merged [] lo hi o = o
tiles-merged (c ∷ l) lo hi o = rw (← o.0) (tiles-merge c l hi o.1 o.2)

merged-at : (l : List Range) (lo hi t : ℕ) → Tiles lo l hi → state_at (merged_l l) t ≡ state_at l t
merged-at [] lo hi t o = refl
merged-at (c ∷ l) lo hi t o = merge-at c l hi t o.1 o.2

differ-merged : (l : List Range) → Differ (merged_l l)
differ-merged [] = tt
differ-merged (c ∷ l) = differ-merge c l

-- THEOREM: the listing keeps the rule: it tiles 00:00 to 24:00, neighbours differ, every minute shows the state with holes closed
pub listed : (l : List Range) → InOrder 0 l 1440 → Lists l (listing l)
listed l o = record {
  tiles = tiles-merged (holes_l 0 l) 0 1440 (tiles-holes 0 l o);
  differ = differ-merged (holes_l 0 l);
  shows_all = λ t h. merged-at (holes_l 0 l) 0 1440 t (tiles-holes 0 l o) ∙ holes-at 0 l t o (omega arith) h;
}

-- how long
few-merge : (c : Range) (l : List Range) → length (merge_l c l) ≤ length l + 1
few-merge c [] = omega arith
few-merge c (r ∷ l) =
    by (same c r)
    (λ e. rw e (omega (arith, few-merge (hull c r) l)))
    (λ e. rw e (omega (arith, few-merge r l)))

few-merged : (l : List Range) → length (merged_l l) ≤ length l
few-merged [] = omega arith
few-merged (c ∷ l) = omega (arith, few-merge c l)

pub few-holes : (lo : ℕ) (l : List Range) → length (holes_l lo l) ≤ 2 * length l + 1
few-holes lo [] = omega (arith, few-ahead (closed lo 1440) [])
few-holes lo (r ∷ l) = omega (arith, few-ahead (closed lo r.start) (r ∷ holes_l r.end l), few-holes r.end l)

-- THEOREM: a schedule's listing has 129 entries at most
pub few-listing : (l : List Range) → length l ≤ 64 → length (listing l) ≤ 129
few-listing l h = omega (arith, few-merged (holes_l 0 l), few-holes 0 l)
