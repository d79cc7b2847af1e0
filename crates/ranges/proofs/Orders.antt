-- An insertion keeps a list in order, and makes it longer by two at most: it cuts one range in two at the worst.
use mathlib.Core.Path.{◌≡◌, refl}
use mathlib.Core.List.{List, [], ◌∷◌, ◌++◌, reverse, reverse_aux}
use Prim.Native.Nat.{ℕ, ◌+◌, ◌≤◌, ◌<◌, min, max}
use native.Mathlib.Omega.{arith}
use lib.ListN.{length, length-reverse, length-reverse_aux}
use borrow.Author.Tests.{lt-ltb, le-ltb}
use Rattle.ranges.specs.Range.{Range, touch, hull}
use Rattle.ranges.specs.Insertion.{end_at, start_at, ahead, before_l, after_l, join_r, join_l, join_lr, insert_r, add_r}
use Rattle.ranges.specs.States.{InOrder}
use Rattle.ranges.proofs.Cases.{split, by}
use Rattle.ranges.proofs.Points.{touched, back, Full}

-- in order, none is empty
pub in-full : (lo hi : ℕ) (l : List Range) → InOrder lo l hi → Full l
in-full lo hi [] o = tt
in-full lo hi (r ∷ l) o = (o.1, in-full r.end hi l o.2)

-- a lower bound may be lowered
pub lower : (lo lo' hi : ℕ) (l : List Range) → lo' ≤ lo → InOrder lo l hi → InOrder lo' l hi
lower lo lo' hi [] h o = omega arith
lower lo lo' hi (r ∷ l) h o = (omega arith, o.1, o.2)

-- what is cut at s ends by s
in-before : (s lo hi : ℕ) (l : List Range) → InOrder lo l hi → InOrder (min lo s) (before_l s l) s
in-before s lo hi [] o = omega arith
in-before s lo hi (r ∷ l) o =
    let ih = in-before s r.end hi l o.2 in
    let p = o.0 in let q = o.1 in
    split r.start (min r.end s)
    (λ k. rw (lt-ltb r.start (min r.end s) k) (omega arith, k, ih))
    (λ k. rw (le-ltb r.start (min r.end s) k) (lower (min r.end s) (min lo s) s (before_l s l) (omega arith) ih))

-- what is cut at e begins at e or later
in_after : (e lo hi : ℕ) (l : List Range) → InOrder lo l hi → InOrder (max lo e) (after_l e l) (max hi e)
in_after e lo hi [] o = omega arith
in_after e lo hi (r ∷ l) o =
    let ih = in_after e r.end hi l o.2 in
    let p = o.0 in let q = o.1 in
    split (max r.start e) r.end
    (λ k. rw (lt-ltb (max r.start e) r.end k) (omega arith, k, lower (max r.end e) r.end (max hi e) (after_l e l) (omega arith) ih))
    (λ k. rw (le-ltb (max r.start e) r.end k) (lower (max r.end e) (max lo e) (max hi e) (after_l e l) (omega arith) ih))

-- joining on the right keeps the outer bounds
in-join_r : (lo hi : ℕ) (x : Range) (l : List Range) → InOrder lo (x ∷ l) hi → InOrder lo (join_r x l) hi
in-join_r lo hi x [] o = o
in-join_r lo hi x (a ∷ l) o =
    by (touch x a)
    (λ e. let k = touched x a e in let p = o.2.0 in let q = o.2.1 in rw e (in-join_r lo hi (hull x a) l (o.0, omega arith, o.2.2)))
    (λ e. rw e o)

-- what lies under the ranges rv may be put in order's place
in-under : (rv u v : List Range) (lo hi : ℕ) → ((k : ℕ) → InOrder k u hi → InOrder k v hi) → InOrder lo (reverse_aux rv u) hi → InOrder lo (reverse_aux rv v) hi
in-under [] u v lo hi f o = f lo o
in-under (r ∷ rv) u v lo hi f o = in-under rv (r ∷ u) (r ∷ v) lo hi (λ k p. (p.0, p.1, f r.end p.2)) o

in-join_l : (rv : List Range) (x : Range) (l : List Range) (lo hi : ℕ) → InOrder lo (reverse_aux rv (x ∷ l)) hi → InOrder lo (join_l rv x l) hi
in-join_l [] x l lo hi o = o
in-join_l (r ∷ rv) x l lo hi o =
    by (touch r x)
    (λ e. let t = touched r x e in
    rw e (in-join_l rv (hull r x) l lo hi (in-under rv (r ∷ x ∷ l) (hull r x ∷ l) lo hi (λ k p. (p.0, omega (arith, p.1, p.2.0, p.2.1), p.2.2)) o)))
    (λ e. rw e o)

in-join_lr : (rv u : List Range) (lo hi : ℕ) → InOrder lo (reverse_aux rv u) hi → InOrder lo (join_lr rv u) hi
in-join_lr rv [] lo hi o = o
in-join_lr rv (x ∷ l) lo hi o = in-join_l rv x l lo hi o

-- two lists in order, one after the other
in-append : (a b : List Range) (lo m hi : ℕ) → InOrder lo a m → InOrder m b hi → InOrder lo (a ++ b) hi
in-append [] b lo m hi o p = lower m lo hi b o p
in-append (r ∷ a) b lo m hi o p = (o.0, o.1, in-append a b r.end m hi o.2 p)

-- an insertion keeps the order
pub in_insert : (x : Range) (l : List Range) (lo hi : ℕ) → InOrder lo l hi → lo ≤ x.start → x.start < x.end → x.end ≤ hi → InOrder lo (insert_r x l) hi
in_insert x l lo hi o h k j =
    let B = before_l x.start l in
    let A = after_l x.end l in
    let m : max hi x.end ≡ hi = omega arith in
    let a : InOrder x.end A hi = lower (max lo x.end) x.end hi A (omega arith) (rw m at (in_after x.end lo hi l o)) in
    in-join_lr (reverse B) (join_r x A) lo hi
    (rw (back B (join_r x A)) (in-append B (join_r x A) lo x.start hi
    (lower (min lo x.start) lo x.start B (omega arith) (in-before x.start lo hi l o))
    (in-join_r x.start hi x A (omega arith, k, a))))

-- the bounds of a list in order are in order
pub in_end : (lo hi : ℕ) (l : List Range) → InOrder lo l hi → lo ≤ hi
in_end lo hi [] o = o
in_end lo hi (r ∷ l) o = let ih = in_end r.end hi l o.2 in let p = o.0 in let q = o.1 in omega arith

-- so does an addition
pub in-add : (a b : List Range) (lo lo' hi : ℕ) → InOrder lo a hi → InOrder lo' b hi → lo ≤ lo' → InOrder lo (add_r a b) hi
in-add a [] lo lo' hi o p h = o
in-add a (r ∷ b) lo lo' hi o p h =
    let q = p.0 in let n = p.1 in
    in_insert r (add_r a b) lo hi (in-add a b lo r.end hi o p.2 (omega arith)) (omega arith) n (in_end r.end hi b p.2)

-- how long
pub none_before : (s lo hi : ℕ) (l : List Range) → InOrder lo l hi → s ≤ lo → before_l s l ≡ []
none_before s lo hi [] o h = refl
none_before s lo hi (r ∷ l) o h =
    let p = o.0 in let q = o.1 in
    rw (le-ltb r.start (min r.end s) (omega arith)) (none_before s r.end hi l o.2 (omega arith))

pub few-ahead : (r : Range) (l : List Range) → length (ahead r l) ≤ length l + 1
few-ahead r l =
    split r.start r.end
    (λ k. rw (lt-ltb r.start r.end k) (omega arith))
    (λ k. rw (le-ltb r.start r.end k) (omega arith))

pub few-after : (e : ℕ) (l : List Range) → length (after_l e l) ≤ length l
few-after e [] = omega arith
few-after e (r ∷ l) = omega (arith, few-ahead (start_at e r) (after_l e l), few-after e l)

-- only one range can reach across both bounds
few-cut : (s e lo hi : ℕ) (l : List Range) → InOrder lo l hi → s < e → length (before_l s l) + length (after_l e l) ≤ length l + 1
few-cut s e lo hi [] o h = omega arith
few-cut s e lo hi (r ∷ l) o h =
    let ih = few-cut s e r.end hi l o.2 h in
    let p = o.0 in let q = o.1 in
    split e r.end
    (λ k. rw (none_before s r.end hi l o.2 (omega arith))
    (omega (arith, few-ahead (end_at s r) [], few-ahead (start_at e r) (after_l e l), few-after e l)))
    (λ k. rw (le-ltb (max r.start e) r.end (omega arith))
    (omega (arith, few-ahead (end_at s r) (before_l s l))))

pub few-join_r : (x : Range) (l : List Range) → length (join_r x l) ≤ length l + 1
few-join_r x [] = omega arith
few-join_r x (a ∷ l) =
    by (touch x a)
    (λ e. rw e (omega (arith, few-join_r (hull x a) l)))
    (λ e. rw e (omega arith))

few-join_l : (rv : List Range) (x : Range) (l : List Range) → length (join_l rv x l) ≤ length rv + length l + 1
few-join_l [] x l = omega arith
few-join_l (r ∷ rv) x l =
    by (touch r x)
    (λ e. rw e (omega (arith, few-join_l rv (hull r x) l)))
    (λ e. rw e (omega (arith, length-reverse_aux (r ∷ rv) (x ∷ l))))

pub few-join_lr : (rv u : List Range) → length (join_lr rv u) ≤ length rv + length u
few-join_lr rv [] = omega (arith, length-reverse rv)
few-join_lr rv (x ∷ l) = omega (arith, few-join_l rv x l)

-- an insertion makes two more at most
pub few-insert : (x : Range) (l : List Range) (lo hi : ℕ) → InOrder lo l hi → x.start < x.end → length (insert_r x l) ≤ length l + 2
few-insert x l lo hi o h =
    let B = before_l x.start l in
    let A = after_l x.end l in
    omega (arith, few-join_lr (reverse B) (join_r x A), length-reverse B, few-join_r x A, few-cut x.start x.end lo hi l o h)
