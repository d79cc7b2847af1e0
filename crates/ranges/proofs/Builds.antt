-- A build shows its state where a span covers, is in order, and is no longer than what was given.
use mathlib.Core.Path.{◌≡◌, refl, sym, ◌∙◌}
use mathlib.Core.Bool.{true, cond}
use mathlib.Core.List.{List, [], ◌∷◌, reverse}
use Prim.Native.Nat.{ℕ, ◌+◌, ◌≤◌, ◌<◌, min, max}
use native.Mathlib.Omega.{arith}
use lib.Dec.{leb}
use lib.ListN.{length, length-reverse}
use borrow.Author.Tests.{lt-ltb, le-ltb, eq-eqb, leb-true}
use Rattle.ranges.specs.Range.{Range, touch, hull}
use Rattle.ranges.specs.Insertion.{end_at, start_at, before_l, after_l, join_r}
use Rattle.ranges.specs.States.{dark, shows, covers, state_at, InOrder, Each}
use Rattle.ranges.specs.Build.{Span, stated, build_r, covered_b, ends_b}
use Rattle.ranges.proofs.Cases.{split, by, both_true}
use Rattle.ranges.proofs.Points.{off, insert-at}
use Rattle.ranges.proofs.Orders.{in_insert, none_before, few-ahead, few-after, few-join_r, few-join_lr}
use Rattle.ranges.proofs.States.{each-build}

-- THE RULE OF A BUILD: its state exactly where some given span covers, else nothing
pub build-at : (k c : ℕ) (l : List Span) (t : ℕ) → state_at (build_r k c l) t ≡ cond (covered_b l t) (shows k c) dark
build-at k c [] t = refl
build-at k c (p ∷ l) t =
    split p.start p.end
    (λ h. rw (lt-ltb p.start p.end h) (insert-at (stated k c p) (build_r k c l) t h
    ∙ by (covers (stated k c p) t) (λ e. rw e) (λ e. rw e (build-at k c l t))))
    (λ h. rw (le-ltb p.start p.end h, off (stated k c p) t (omega arith)) (build-at k c l t))

-- each span that goes in keeps the order
pub in-build : (k c : ℕ) (l : List Span) → ends_b l ≡ true → InOrder 0 (build_r k c l) 1440
in-build k c [] u = omega arith
in-build k c (p ∷ l) u =
    let b = both_true (leb p.end 1440) (ends_b l) u in
    let ih = in-build k c l b.1 in
    let e = leb-true p.end 1440 b.0 in
    split p.start p.end
    (λ h. rw (lt-ltb p.start p.end h) (in_insert (stated k c p) (build_r k c l) 0 1440 ih (omega arith) h e))
    (λ h. rw (le-ltb p.start p.end h) ih)

-- one state throughout
abbrev pub Is : ℕ → ℕ → ℕ → ℕ → Type 0
Is k c a b = (a ≡ k) × (b ≡ c)

-- every range of a build has its state
pub one-build : (k c : ℕ) (l : List Span) → Each (Is k c) (build_r k c l)
one-build k c l = each-build (Is k c) k c l (refl, refl)

-- in one state, ends that meet touch
pub touch-same : (k c : ℕ) (a b : Range) → a.end ≡ b.start → Is k c a.kind a.comment → Is k c b.kind b.comment → touch a b ≡ true
touch-same k c a b e p q = rw (eq-eqb a.end b.start e, eq-eqb a.kind b.kind (p.0 ∙ sym q.0), eq-eqb a.comment b.comment (p.1 ∙ sym q.1))

-- a range that is cut in two touches what is put in between, so that an insertion adds one at most
few-around : (k c : ℕ) (x : Range) (lo hi : ℕ) (l : List Range) → x.start < x.end → Is k c x.kind x.comment → Each (Is k c) l → InOrder lo l hi
    → length (before_l x.start l) + length (join_r x (after_l x.end l)) ≤ length l + 1
few-around k c x lo hi [] h p u o = omega arith
few-around k c x lo hi (r ∷ l) h p u o =
    let ih = few-around k c x r.end hi l h p u.1 o.2 in
    let o₀ = o.0 in let o₁ = o.1 in
    let A = after_l x.end l in
    split x.end r.end
    (λ i. rw (none_before x.start r.end hi l o.2 (omega arith), lt-ltb (max r.start x.end) r.end (omega arith))
    (split r.start x.start
    (λ j. let m : max r.start x.end ≡ x.end = omega arith in
    rw (touch-same k c x (start_at x.end r) (sym m) p u.0)
    (omega (arith, few-ahead (end_at x.start r) [], few-join_r (hull x (start_at x.end r)) A, few-after x.end l)))
    (λ j. rw (le-ltb r.start (min r.end x.start) (omega arith))
    (omega (arith, few-join_r x (start_at x.end r ∷ A), few-after x.end l)))))
    (λ i. rw (le-ltb (max r.start x.end) r.end (omega arith))
    (omega (arith, few-ahead (end_at x.start r) (before_l x.start l))))

-- so a build is no longer than what was given
pub few-build : (k c : ℕ) (l : List Span) → ends_b l ≡ true → length (build_r k c l) ≤ length l
few-build k c [] u = omega arith
few-build k c (p ∷ l) u =
    let b = both_true (leb p.end 1440) (ends_b l) u in
    let ih = few-build k c l b.1 in
    let B = before_l p.start (build_r k c l) in
    let R = join_r (stated k c p) (after_l p.end (build_r k c l)) in
    split p.start p.end
    (λ h. rw (lt-ltb p.start p.end h)
    (omega (arith, few-join_lr (reverse B) R, length-reverse B, few-around k c (stated k c p) 0 1440 (build_r k c l) h (refl, refl) (one-build k c l) (in-build k c l b.1))))
    (λ h. rw (le-ltb p.start p.end h) (omega arith))
