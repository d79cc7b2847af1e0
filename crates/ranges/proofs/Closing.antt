-- Dropping closed ranges without comment changes no minute's state, and a list is shut if every minute that it shows is closed without comment.
use mathlib.Core.Path.{◌≡◌, refl, sym, ap, ◌∙◌}
use mathlib.Core.Bool.{true, false, false≢true}
use mathlib.Core.List.{List, [], ◌∷◌}
use Prim.Native.Nat.{ℕ, ◌≤◌, ◌<◌}
use native.Mathlib.Omega.{arith}
use lib.Dec.{eqb, leb, ltb}
use lib.ListN.{length}
use borrow.Author.Tests.{eqb-true, ltb-true}
use Rattle.ranges.specs.Range.{Range}
use Rattle.ranges.specs.States.{dark, shows, covers, state_at, lit, InOrder, Each}
use Rattle.ranges.specs.Closed.{blank_b, shut_b, drop_r}
use Rattle.ranges.proofs.Cases.{by, both_true}
use Rattle.ranges.proofs.Points.{on, off}
use Rattle.ranges.proofs.Orders.{lower, in_end}

-- a blank range, as two equations
closed_of : (r : Range) → blank_b r ≡ true → (r.kind ≡ 1) × (r.comment ≡ 0)
closed_of r h = let p = both_true (eqb r.kind 1) (eqb r.comment 0) h in (eqb-true _ _ p.0, eqb-true _ _ p.1)

-- before its start a list in order shows nothing
pub dark-before : (lo hi : ℕ) (l : List Range) (t : ℕ) → InOrder lo l hi → t < lo → state_at l t ≡ dark
dark-before lo hi [] t o h = refl
dark-before lo hi (r ∷ l) t o h =
    let p = o.0 in let q = o.1 in
    rw (off r t (omega arith)) (dark-before r.end hi l t o.2 (omega arith))

-- dropping keeps the order
pub in-drop : (lo hi : ℕ) (l : List Range) → InOrder lo l hi → InOrder lo (drop_r l) hi
in-drop lo hi [] o = o
in-drop lo hi (r ∷ l) o =
    let p = o.0 in let q = o.1 in
    by (blank_b r)
    (λ e. rw e (lower r.end lo hi (drop_r l) (omega arith) (in-drop r.end hi l o.2)))
    (λ e. rw e (o.0, o.1, in-drop r.end hi l o.2))

-- and makes no state
pub each-drop : (P : ℕ → ℕ → Type 0) (l : List Range) → Each P l → Each P (drop_r l)
each-drop P [] o = tt
each-drop P (r ∷ l) o = by (blank_b r) (λ e. rw e (each-drop P l o.1)) (λ e. rw e (o.0, each-drop P l o.1))

-- and makes the list no longer
pub few-drop : (l : List Range) → length (drop_r l) ≤ length l
few-drop [] = omega arith
few-drop (r ∷ l) = by (blank_b r) (λ e. rw e (omega (arith, few-drop l))) (λ e. rw e (omega (arith, few-drop l)))

before-end : (r : Range) (t : ℕ) → covers r t ≡ true → t < r.end
before-end r t f = ltb-true t r.end (both_true (leb r.start t) (ltb t r.end) f).1

-- THE RULE OF DROPPING: with holes read as closed, every minute shows what it did
pub drop_at : (lo hi : ℕ) (l : List Range) (t : ℕ) → InOrder lo l hi → lit (state_at (drop_r l) t) ≡ lit (state_at l t)
drop_at lo hi [] t o = refl
drop_at lo hi (r ∷ l) t o =
    let ih = drop_at r.end hi l t o.2 in
    by (blank_b r)
    (λ e. let c = closed_of r e in
    rw e (by (covers r t)
    (λ f. rw (f, c.0, c.1) (ih ∙ ap lit (dark-before r.end hi l t o.2 (before-end r t f))))
    (λ f. rw f ih)))
    (λ e. rw e (by (covers r t) (λ f. rw f) (λ f. rw f ih)))

-- of a shut list every minute is closed, comment 0
pub shut_at : (l : List Range) (t : ℕ) → shut_b l ≡ true → lit (state_at l t) ≡ shows 1 0
shut_at [] t h = refl
shut_at (r ∷ l) t h =
    let p = both_true (blank_b r) (shut_b l) h in
    let c = closed_of r p.0 in
    by (covers r t)
    (λ f. rw (f, c.0, c.1))
    (λ f. rw f (shut_at l t p.1))

-- and one that is not shut shows another state at some minute
pub record Awake (lo hi : ℕ) (l : List Range) : Type 0 where
  pub minute : ℕ
  pub from : lo ≤ minute
  pub upto : minute < hi
  pub kind : ℕ
  pub comment : ℕ
  pub is : state_at l minute ≡ shows kind comment
  pub other : (shows kind comment ≡ shows 1 0 → ⊥)

not-blank : (r : Range) → blank_b r ≡ false → shows r.kind r.comment ≡ shows 1 0 → ⊥
not-blank r e h = let k : r.kind ≡ 1 = cc in let c : r.comment ≡ 0 = cc in false≢true (sym e ∙ rw (k, c))

-- the first range that is not blank has such a minute
pub awake-of : (lo hi : ℕ) (l : List Range) → InOrder lo l hi → shut_b l ≡ false → Awake lo hi l
awake-of lo hi [] o h = absurd (false≢true (sym h))
awake-of lo hi (r ∷ l) o h =
    let p = o.0 in let q = o.1 in let u = in_end r.end hi l o.2 in
    by (blank_b r)
    (λ e. let w = awake-of r.end hi l o.2 (rw e at h) in let z = w.from in record {
      minute = w.minute;
      from = omega arith;
      upto = w.upto;
      kind = w.kind;
      comment = w.comment;
      is = rw (off r w.minute (omega arith)) w.is;
      other = w.other;
    })
    (λ e. record {
      minute = r.start;
      from = p;
      upto = omega arith;
      kind = r.kind;
      comment = r.comment;
      is = rw (on r r.start (omega arith) q);
      other = not-blank r e;
    })
