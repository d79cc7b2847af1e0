-- An insertion leaves no two neighbours that touch in the same state, where there were none. So a build has maximal runs.
use mathlib.Core.Path.{◌≡◌, refl, sym, ◌∙◌}
use mathlib.Core.Bool.{true, false, true≢false}
use mathlib.Core.List.{List, [], ◌∷◌, reverse, reverse_aux, reverse-reverse}
use Prim.Native.Nat.{ℕ, ◌≤◌, min, max}
use native.Mathlib.Omega.{arith}
use lib.Dec.{leb}
use borrow.Author.Tests.{lt-ltb, le-ltb}
use Rattle.ranges.specs.Range.{Range, touch, hull}
use Rattle.ranges.specs.Insertion.{end_at, start_at, ahead, before_l, after_l, join_r, join_l, join_lr, insert_r}
use Rattle.ranges.specs.States.{InOrder, Each}
use Rattle.ranges.specs.Build.{Span, stated, build_r, ends_b, Apart}
use Rattle.ranges.proofs.Cases.{split, by, both_true}
use Rattle.ranges.proofs.Points.{touched}
use Rattle.ranges.proofs.Orders.{none_before}
use Rattle.ranges.proofs.Builds.{Is, touch-same, in-build, one-build}

-- no range touches the next in the same state
abbrev pub Stops : Range → List Range → Type 0
Stops r [] = Unit {0}
Stops r (s ∷ l) = touch r s ≡ false

abbrev pub Joined : List Range → Type 0
Joined [] = Unit {0}
Joined (r ∷ l) = Stops r l × Joined l

-- after
stops-start : (e : ℕ) (r : Range) (l : List Range) → Stops r l → Stops (start_at e r) l
stops-start e r [] h = tt
stops-start e r (s ∷ l) h = h

pub after_same : (e lo hi : ℕ) (l : List Range) → InOrder lo l hi → e ≤ lo → after_l e l ≡ l
after_same e lo hi [] o h = refl
after_same e lo hi (r ∷ l) o h =
    let p = o.0 in let q = o.1 in
    let m : max r.start e ≡ r.start = omega arith in
    rw (m, lt-ltb r.start r.end q, after_same e r.end hi l o.2 (omega arith))

joined-after : (e lo hi : ℕ) (l : List Range) → InOrder lo l hi → Joined l → Joined (after_l e l)
joined-after e lo hi [] o j = tt
joined-after e lo hi (r ∷ l) o j =
    let p = o.0 in let q = o.1 in
    split e r.end
    (λ h. rw (after_same e r.end hi l o.2 (omega arith), lt-ltb (max r.start e) r.end (omega arith)) (stops-start e r l j.0, j.1))
    (λ h. rw (le-ltb (max r.start e) r.end (omega arith)) (joined-after e r.end hi l o.2 j.1))

-- before
stops-before : (s lo hi : ℕ) (r : Range) (l : List Range) → InOrder lo l hi → Stops r l → Stops r (before_l s l)
stops-before s lo hi r [] o j = tt
stops-before s lo hi r (q ∷ l) o j =
    let p₁ = o.1 in
    split q.start s
    (λ h. rw (lt-ltb q.start (min q.end s) (omega arith)) j)
    (λ h. rw (none_before s q.start hi (q ∷ l) (omega arith, o.1, o.2) h) tt)

joined-alone : (r : Range) → Joined (ahead r [])
joined-alone r = split r.start r.end (λ h. rw (lt-ltb r.start r.end h) (tt, tt)) (λ h. rw (le-ltb r.start r.end h) tt)

joined-before : (s lo hi : ℕ) (l : List Range) → InOrder lo l hi → Joined l → Joined (before_l s l)
joined-before s lo hi [] o j = tt
joined-before s lo hi (r ∷ l) o j =
    let q = o.1 in
    split s r.end
    (λ h. rw (none_before s r.end hi l o.2 (omega arith)) (joined-alone (end_at s r)))
    (λ h. let m : min r.end s ≡ r.end = omega arith in
    rw (m, lt-ltb r.start r.end q) (stops-before s r.end hi r l o.2 j.0, joined-before s r.end hi l o.2 j.1))

-- joins
joined-join_r : (x : Range) (l : List Range) → Joined l → Joined (join_r x l)
joined-join_r x [] j = (tt, tt)
joined-join_r x (a ∷ l) j = by (touch x a) (λ e. rw e (joined-join_r (hull x a) l j.1)) (λ e. rw e (e, j))

end_of : (rv u : List Range) → Joined (reverse_aux rv u) → Joined u
end_of [] u j = j
end_of (r ∷ rv) u j = (end_of rv (r ∷ u) j).1

joined-under : (rv u v : List Range) → ((q : Range) → Stops q u → Stops q v) → Joined v → Joined (reverse_aux rv u) → Joined (reverse_aux rv v)
joined-under [] u v f k j = k
joined-under (r ∷ rv) u v f k j = joined-under rv (r ∷ u) (r ∷ v) (λ q h. h) (f r (end_of rv (r ∷ u) j).0, k) j

stops-hull : (r x : Range) (l : List Range) → touch r x ≡ true → Stops x l → Stops (hull r x) l
stops-hull r x [] e h = tt
stops-hull r x (s ∷ l) e h = let t = touched r x e in rw (t.kinds, t.comments) h

joined-join_l : (rv : List Range) (x : Range) (l : List Range) → Joined (reverse_aux rv []) → Joined (x ∷ l) → Joined (join_l rv x l)
joined-join_l [] x l j k = k
joined-join_l (r ∷ rv) x l j k =
    by (touch r x)
    (λ e. rw e (joined-join_l rv (hull r x) l (joined-under rv (r ∷ []) [] (λ q h. tt) tt j) (stops-hull r x l e k.0, k.1)))
    (λ e. rw e (joined-under rv (r ∷ []) (r ∷ x ∷ l) (λ q h. h) (e, k) j))

joined-join_lr : (rv u : List Range) → Joined (reverse_aux rv []) → Joined u → Joined (join_lr rv u)
joined-join_lr rv [] j k = j
joined-join_lr rv (x ∷ l) j k = joined-join_l rv x l j k

pub joined-insert : (x : Range) (lo hi : ℕ) (l : List Range) → InOrder lo l hi → Joined l → Joined (insert_r x l)
joined-insert x lo hi l o j =
    let B = before_l x.start l in
    joined-join_lr (reverse B) (join_r x (after_l x.end l)) (rw (reverse-reverse B) (joined-before x.start lo hi l o j)) (joined-join_r x (after_l x.end l) (joined-after x.end lo hi l o j))

pub joined-build : (k c : ℕ) (l : List Span) → ends_b l ≡ true → Joined (build_r k c l)
joined-build k c [] u = tt
joined-build k c (p ∷ l) u =
    let b = both_true (leb p.end 1440) (ends_b l) u in
    let ih = joined-build k c l b.1 in
    split p.start p.end
    (λ h. rw (lt-ltb p.start p.end h) (joined-insert (stated k c p) 0 1440 (build_r k c l) (in-build k c l b.1) ih))
    (λ h. rw (le-ltb p.start p.end h) ih)

-- in one state: strictly apart
apart_from : (k c hi lo : ℕ) (l : List Range) → Each (Is k c) l → InOrder lo l hi → Joined l → Apart lo l
apart_from k c hi lo [] u o j = tt
apart_from k c hi lo (r ∷ []) u o j = (o.0, tt)
apart_from k c hi lo (r ∷ s ∷ l) u o j =
    let p = o.2.0 in
    let ih = apart_from k c hi r.end (s ∷ l) u.1 o.2 j.1 in (
      o.0,
      (
        split r.end s.start
            (λ h. h)
            (λ h. absurd (true≢false (sym (touch-same k c r s (omega arith) u.0 u.1.0) ∙ j.0))),
        ih.1,
      ),
    )

-- a build keeps maximal runs
pub apart-build : (k c : ℕ) (l : List Span) → ends_b l ≡ true → Apart 0 (build_r k c l)
apart-build k c l u = apart_from k c 1440 0 (build_r k c l) (one-build k c l) (in-build k c l u) (joined-build k c l u)
