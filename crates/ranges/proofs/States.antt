-- Every state that an insertion, an addition or a build leaves is a state that was put in: no step makes a new one.
use mathlib.Core.List.{List, [], ◌∷◌, reverse, reverse_aux}
use Prim.Native.Nat.{ℕ}
use borrow.Author.Tests.{lt-ltb, le-ltb}
use Rattle.ranges.specs.Range.{Range, touch, hull}
use Rattle.ranges.specs.Insertion.{end_at, start_at, ahead, before_l, after_l, join_r, join_l, join_lr, insert_r, add_r}
use Rattle.ranges.specs.States.{Each}
use Rattle.ranges.specs.Build.{Span, stated, build_r}
use Rattle.ranges.proofs.Cases.{split, by}

module _ (P : ℕ → ℕ → Type 0) where
  each-ahead : (r : Range) (l : List Range) → P r.kind r.comment → Each P l → Each P (ahead r l)
  each-ahead r l p o = split r.start r.end (λ h. rw (lt-ltb r.start r.end h) (p, o)) (λ h. rw (le-ltb r.start r.end h) o)

  each-before : (s : ℕ) (l : List Range) → Each P l → Each P (before_l s l)
  each-before s [] o = tt
  each-before s (r ∷ l) o = each-ahead (end_at s r) (before_l s l) o.0 (each-before s l o.1)

  each_after : (e : ℕ) (l : List Range) → Each P l → Each P (after_l e l)
  each_after e [] o = tt
  each_after e (r ∷ l) o = each-ahead (start_at e r) (after_l e l) o.0 (each_after e l o.1)

  each-join_r : (x : Range) (l : List Range) → Each P (x ∷ l) → Each P (join_r x l)
  each-join_r x [] o = o
  each-join_r x (a ∷ l) o = by (touch x a) (λ e. rw e (each-join_r (hull x a) l (o.0, o.1.1))) (λ e. rw e o)

  each-reverse : (a b : List Range) → Each P a → Each P b → Each P (reverse_aux a b)
  each-reverse [] b o p = p
  each-reverse (r ∷ a) b o p = each-reverse a (r ∷ b) o.1 (o.0, p)

  each-join_l : (rv : List Range) (x : Range) (l : List Range) → Each P rv → Each P (x ∷ l) → Each P (join_l rv x l)
  each-join_l [] x l o p = p
  each-join_l (r ∷ rv) x l o p =
      by (touch r x)
      (λ e. rw e (each-join_l rv (hull r x) l o.1 (o.0, p.1)))
      (λ e. rw e (each-reverse (r ∷ rv) (x ∷ l) o p))

  each-join_lr : (rv u : List Range) → Each P rv → Each P u → Each P (join_lr rv u)
  each-join_lr rv [] o p = each-reverse rv [] o tt
  each-join_lr rv (x ∷ l) o p = each-join_l rv x l o p

  -- an insertion makes no state
  pub each-insert : (x : Range) (l : List Range) → Each P (x ∷ l) → Each P (insert_r x l)
  each-insert x l o =
      each-join_lr (reverse (before_l x.start l)) (join_r x (after_l x.end l))
      (each-reverse (before_l x.start l) [] (each-before x.start l o.1) tt)
      (each-join_r x (after_l x.end l) (o.0, each_after x.end l o.1))

  -- nor does an addition
  pub each-add : (a b : List Range) → Each P a → Each P b → Each P (add_r a b)
  each-add a [] o p = o
  each-add a (r ∷ b) o p = each-insert r (add_r a b) (p.0, each-add a b o p.1)

  -- a build has its own alone
  pub each-build : (k c : ℕ) (l : List Span) → P k c → Each P (build_r k c l)
  each-build k c [] o = tt
  each-build k c (p ∷ l) o =
      let ih = each-build k c l o in
      split p.start p.end
      (λ h. rw (lt-ltb p.start p.end h) (each-insert (stated k c p) (build_r k c l) (o, ih)))
      (λ h. rw (le-ltb p.start p.end h) ih)
