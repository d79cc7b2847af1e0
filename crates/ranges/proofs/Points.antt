-- What an insertion shows at a minute: each step leaves the state of every minute as it was, or cuts it at a bound.
use mathlib.Core.Path.{◌≡◌, refl, ap, ◌∙◌}
use mathlib.Core.Bool.{Bool, true, false, cond}
use mathlib.Core.List.{List, [], ◌∷◌, ◌++◌, reverse, reverse_aux, reverse_aux-eq, reverse-reverse}
use Prim.Native.Nat.{ℕ, ◌≤◌, ◌<◌, min, max}
use native.Mathlib.Omega.{arith}
use lib.Dec.{ltb, leb, eqb}
use borrow.Author.Tests.{lt-ltb, le-ltb, le-leb, lt-leb, eqb-true}
use Rattle.ranges.specs.Range.{Range, both, same, touch, hull}
use Rattle.ranges.specs.Insertion.{end_at, start_at, ahead, before_l, after_l, join_r, join_l, join_lr, insert_r, add_r}
use Rattle.ranges.specs.States.{Shown, dark, shows, covers, state_at, over}
use Rattle.ranges.proofs.Cases.{split, by, both_true}

-- a range that does not reach t
pub off : (r : Range) (t : ℕ) → (r.start ≤ t → t < r.end → ⊥) → covers r t ≡ false
off r t n =
    split t r.start
    (λ h. rw (lt-leb r.start t h))
    (λ h. split t r.end (λ k. absurd (n h k)) (λ k. rw (le-leb r.start t h, le-ltb t r.end k)))

-- a range that reaches t
pub on : (r : Range) (t : ℕ) → r.start ≤ t → t < r.end → covers r t ≡ true
on r t h k = rw (le-leb r.start t h, lt-ltb t r.end k)

-- an empty range shows nothing
pub ahead-at : (r : Range) (l : List Range) (t : ℕ) → state_at (ahead r l) t ≡ state_at (r ∷ l) t
ahead-at r l t =
    split r.start r.end
    (λ h. rw (lt-ltb r.start r.end h))
    (λ h. rw (le-ltb r.start r.end h, off r t (omega arith)))

-- tests on min and max
lt-min : (t a s : ℕ) → ltb t (min a s) ≡ both (ltb t s) (ltb t a)
lt-min t a s =
    split t s
    (λ h. rw (lt-ltb t s h) (split t a (λ k. rw (lt-ltb t a k) (omega (arith, lt-ltb))) (λ k. rw (le-ltb t a k) (omega (arith, le-ltb)))))
    (λ h. rw (le-ltb t s h) (omega (arith, le-ltb)))

max-le : (t a e : ℕ) → leb (max a e) t ≡ both (leb e t) (leb a t)
max-le t a e =
    split t e
    (λ h. rw (lt-leb e t h) (omega (arith, lt-leb)))
    (λ h. rw (le-leb e t h) (split t a (λ k. rw (lt-leb a t k) (omega (arith, lt-leb))) (λ k. rw (le-leb a t k) (omega (arith, le-leb)))))

-- shapes of tests
shape₀ : (q : Bool) → dark ≡ cond q dark dark
shape₀ true = refl
shape₀ false = refl

shape₁ : (p q v : Bool) (S X : Shown) → cond (both p (both q v)) S (cond q X dark) ≡ cond q (cond (both p v) S X) dark
shape₁ true true v S X = refl
shape₁ true false v S X = refl
shape₁ false true v S X = refl
shape₁ false false v S X = refl

shape₂ : (p q v : Bool) (S X : Shown) → cond (both (both q p) v) S (cond q X dark) ≡ cond q (cond (both p v) S X) dark
shape₂ p true v S X = refl
shape₂ p false v S X = refl

-- before s the state is as it was, then nothing
pub before_at : (s : ℕ) (l : List Range) (t : ℕ) → state_at (before_l s l) t ≡ cond (ltb t s) (state_at l t) dark
before_at s [] t = shape₀ (ltb t s)
before_at s (r ∷ l) t = ahead-at (end_at s r) (before_l s l) t ∙ rw (lt-min t r.end s, before_at s l t) (shape₁ (leb r.start t) (ltb t s) (ltb t r.end) (shows r.kind r.comment) (state_at l t))

-- from e on the state is as it was, before that nothing
pub after-at : (e : ℕ) (l : List Range) (t : ℕ) → state_at (after_l e l) t ≡ cond (leb e t) (state_at l t) dark
after-at e [] t = shape₀ (leb e t)
after-at e (r ∷ l) t = ahead-at (start_at e r) (after_l e l) t ∙ rw (max-le t r.start e, after-at e l t) (shape₂ (leb r.start t) (leb e t) (ltb t r.end) (shows r.kind r.comment) (state_at l t))

pub record Touch (a b : Range) : Type 0 where
  pub ends : a.end ≡ b.start
  pub kinds : a.kind ≡ b.kind
  pub comments : a.comment ≡ b.comment

-- a touch, as three equations
pub touched : (a b : Range) → touch a b ≡ true → Touch a b
touched a b h =
    let p = both_true (eqb a.end b.start) (same a b) h in
    let q = both_true (eqb a.kind b.kind) (eqb a.comment b.comment) p.1 in
    record { ends = eqb-true _ _ p.0; kinds = eqb-true _ _ q.0; comments = eqb-true _ _ q.1 }

-- two ranges that touch show what their hull shows
pub hull-at : (a b : Range) (l : List Range) (t : ℕ) → a.start < a.end → b.start < b.end → Touch a b → state_at (hull a b ∷ l) t ≡ state_at (a ∷ b ∷ l) t
hull-at a b l t ha hb h =
    split t a.start
    (λ k. rw (off (hull a b) t (omega arith), off a t (omega arith), off b t (omega arith)))
    (λ k. split t a.end
    (λ j. rw (on (hull a b) t (omega arith) (omega arith), on a t (omega arith) (omega arith)))
    (λ j. rw (off a t (omega arith)) (split t b.end
    (λ i. rw (on (hull a b) t (omega arith) (omega arith), on b t (omega arith) (omega arith), h.kinds, h.comments))
    (λ i. rw (off (hull a b) t (omega arith), off b t (omega arith))))))

-- no range is empty
abbrev pub Full : List Range → Type 0
Full [] = Unit {0}
Full (r ∷ l) = (r.start < r.end) × Full l

full-ahead : (r : Range) (l : List Range) → Full l → Full (ahead r l)
full-ahead r l h =
    split r.start r.end
    (λ k. rw (lt-ltb r.start r.end k) (k, h))
    (λ k. rw (le-ltb r.start r.end k) h)

full-before : (s : ℕ) (l : List Range) → Full (before_l s l)
full-before s [] = tt
full-before s (r ∷ l) = full-ahead (end_at s r) (before_l s l) (full-before s l)

full-after : (e : ℕ) (l : List Range) → Full (after_l e l)
full-after e [] = tt
full-after e (r ∷ l) = full-ahead (start_at e r) (after_l e l) (full-after e l)

full-reverse : (a b : List Range) → Full a → Full b → Full (reverse_aux a b)
full-reverse [] b f g = g
full-reverse (r ∷ a) b f g = full-reverse a (r ∷ b) f.1 (f.0, g)

full-join_r : (x : Range) (l : List Range) → x.start < x.end → Full l → Full (join_r x l)
full-join_r x [] h f = (h, tt)
full-join_r x (a ∷ l) h f =
    by (touch x a)
    (λ e. let t = touched x a e in rw e (full-join_r (hull x a) l (omega arith) f.1))
    (λ e. rw e (h, f))

-- joining leaves every state as it was
join_r-at : (x : Range) (l : List Range) (t : ℕ) → x.start < x.end → Full l → state_at (join_r x l) t ≡ state_at (x ∷ l) t
join_r-at x [] t h f = refl
join_r-at x (a ∷ l) t h f =
    by (touch x a)
    (λ e. let k = touched x a e in rw e (join_r-at (hull x a) l t (omega arith) f.1 ∙ hull-at x a l t h f.0 k))
    (λ e. rw e)

under : (rv u v : List Range) (t : ℕ) → state_at u t ≡ state_at v t → state_at (reverse_aux rv u) t ≡ state_at (reverse_aux rv v) t
under [] u v t h = h
under (r ∷ rv) u v t h = under rv (r ∷ u) (r ∷ v) t (ap (λ (z : Shown). cond (covers r t) (shows r.kind r.comment) z) h)

-- on the left too
join_l-at : (rv : List Range) (x : Range) (l : List Range) (t : ℕ) → x.start < x.end → Full rv → state_at (join_l rv x l) t ≡ state_at (reverse_aux rv (x ∷ l)) t
join_l-at [] x l t h f = refl
join_l-at (r ∷ rv) x l t h f =
    by (touch r x)
    (λ e. let k = touched r x e in rw e (join_l-at rv (hull r x) l t (omega arith) f.1 ∙ under rv (hull r x ∷ l) (r ∷ x ∷ l) t (hull-at r x l t f.0 h k)))
    (λ e. rw e)

join_lr-at : (rv u : List Range) (t : ℕ) → Full rv → Full u → state_at (join_lr rv u) t ≡ state_at (reverse_aux rv u) t
join_lr-at rv [] t f g = refl
join_lr-at rv (x ∷ l) t f g = join_l-at rv x l t g.0 f

over-cond : (q : Bool) (k c : ℕ) (X Y : Shown) → cond q (shows k c) (over X Y) ≡ over (cond q (shows k c) X) Y
over-cond true k c X Y = refl
over-cond false k c X Y = refl

over-dark : (X : Shown) → over X dark ≡ X
over-dark dark = refl
over-dark (shows k c) = refl

-- the first list, over the second
append_at : (a b : List Range) (t : ℕ) → state_at (a ++ b) t ≡ over (state_at a t) (state_at b t)
append_at [] b t = refl
append_at (r ∷ a) b t = rw (append_at a b t) (over-cond (covers r t) r.kind r.comment (state_at a t) (state_at b t))

-- a list reversed and put back in front
pub back : (b u : List Range) → reverse_aux (reverse b) u ≡ b ++ u
back b u = reverse_aux-eq (reverse b) u ∙ ap (λ (z : List Range). z ++ u) (reverse-reverse b)

-- before, in and behind the new range
around : (x : Range) (X : Shown) (t : ℕ) → x.start < x.end
    → over (cond (ltb t x.start) X dark) (cond (covers x t) (shows x.kind x.comment) (cond (leb x.end t) X dark))
    ≡ cond (covers x t) (shows x.kind x.comment) X
around x X t h =
    split t x.start
    (λ k. rw (lt-ltb t x.start k, off x t (omega arith), lt-leb x.end t (omega arith)) (over-dark X))
    (λ k. rw (le-ltb t x.start k) (split t x.end
    (λ j. rw (on x t k j))
    (λ j. rw (off x t (omega arith), le-leb x.end t j))))

-- the rule of insertion: the new range, over what was there
pub insert-at : (x : Range) (l : List Range) (t : ℕ) → x.start < x.end → state_at (insert_r x l) t ≡ state_at (x ∷ l) t
insert-at x l t h =
    let B = before_l x.start l in
    let A = after_l x.end l in
    join_lr-at (reverse B) (join_r x A) t (full-reverse B [] (full-before x.start l) tt) (full-join_r x A h (full-after x.end l))
    ∙ rw (back B (join_r x A), append_at B (join_r x A) t, join_r-at x A t h (full-after x.end l), before_at x.start l t, after-at x.end l t) (around x (state_at l t) t h)

-- THE RULE OF ADDITION: the second where it shows something, else the first
pub add_at : (a b : List Range) (t : ℕ) → Full b → state_at (add_r a b) t ≡ over (state_at b t) (state_at a t)
add_at a [] t f = refl
add_at a (r ∷ b) t f = insert-at r (add_r a b) t f.0 ∙ rw (add_at a b t f.1) (over-cond (covers r t) r.kind r.comment (state_at b t) (state_at a t))
